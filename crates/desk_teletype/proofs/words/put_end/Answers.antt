-- `desk_teletype::words::put_end`: a number of 64 bits has at most 20 digits.
use Rattle.std.proofs.Common.{rules, arith, refl, length-append, ◌-◌}
use Rattle.page.proofs.Writing.{page_of}
use Rattle.page.proofs.Numbers.{decimal_length}
use Rattle.desk_last_lines.proofs.Sizes.{end_size}
use Rattle.state.specs.Refusals.{reason_of}
use Rattle.desk_teletype.proofs.words.put_end.Goals as goal

pub put_end_line-requires : goal.put_end_line-requires
put_end_line-requires c =
    (search rules, simp c.new-draft.ensures (omega (arith, decimal_length 19 (c.args.budget - c.args.s.left) (search rules))))

pub copy_to-requires : goal.copy_to-requires
copy_to-requires c =
    let digits = decimal_length 19 (c.args.budget - c.args.s.left) (search rules) in
    let size = end_size (c.args.budget - c.args.s.left) (reason_of c.args.s.machine.run) in
    (search rules, simp (c.put_end_line.ensures, c.new-draft.ensures, length-append) (omega (arith, digits, size)))

pub returns : goal.returns
returns c = page_of _ c.copy_to.ensures (simp (c.put_end_line.ensures, c.new-draft.ensures) refl)
