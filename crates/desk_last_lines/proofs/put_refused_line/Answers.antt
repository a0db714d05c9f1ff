-- `desk_last_lines::put_refused_line`: a number of 64 bits has at most 20 digits.
use Rattle.std.proofs.Common.{rules, arith, length-append, refl}
use Rattle.page.proofs.Writing.{page_of}
use Rattle.page.proofs.Numbers.{decimal_length}
use Rattle.desk_last_lines.specs.LastLines.{refused_line}
use Rattle.desk_last_lines.proofs.put_refused_line.Goals as goal

pub put_decimal-requires : goal.put_decimal-requires
put_decimal-requires c =
    (search rules, simp (c.put_text.ensures, c.new-draft.ensures) (omega (arith, decimal_length 19 c.args.n (search rules))))

pub put_byte-requires : goal.put_byte-requires
put_byte-requires c =
    (search rules, simp (c.put_decimal.ensures, c.put_text.ensures, c.new-draft.ensures, length-append) (omega (arith, decimal_length 19 c.args.n (search rules))))

pub copy_to-requires : goal.copy_to-requires
copy_to-requires c =
    (search rules, simp (c.put_byte.ensures, c.put_decimal.ensures, c.put_text.ensures, c.new-draft.ensures, length-append) (omega (arith, decimal_length 19 c.args.n (search rules), c.requires)))

pub returns : goal.returns
unfolding refused_line
returns c = page_of _ c.copy_to.ensures (simp (c.put_byte.ensures, c.put_decimal.ensures, c.put_text.ensures, c.new-draft.ensures) refl)
