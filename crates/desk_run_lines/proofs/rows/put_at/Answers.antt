-- `desk_run_lines::rows::put_at`: the label, and the number.
use Rattle.std.proofs.Common.{rules, arith, refl, append_assoc, length-append}
use Rattle.desk_run_lines.proofs.RowTexts.{at_size, at_line_lem}
use Rattle.desk_run_lines.proofs.rows.put_at.Goals as goal

pub put_text-requires : goal.put_text-requires
put_text-requires c = (search rules, omega (arith, at_size c.args.label.now c.args.row, c.requires))

pub put_text-requires-2 : goal.put_text-requires-2
put_text-requires-2 c = (search rules, simp (c.put_text.ensures, length-append) (omega (arith, at_size c.args.label.now c.args.row, c.requires)))

pub put_byte-requires : goal.put_byte-requires
put_byte-requires c = (search rules, simp (c.put_text-2.ensures, c.put_text.ensures, length-append) (omega (arith, at_size c.args.label.now c.args.row, c.requires)))

pub put_decimal-requires : goal.put_decimal-requires
put_decimal-requires c = (search rules, simp (c.put_byte.ensures, c.put_text-2.ensures, c.put_text.ensures, length-append) (omega (arith, at_size c.args.label.now c.args.row, c.requires)))

pub put_byte-requires-2 : goal.put_byte-requires-2
put_byte-requires-2 c = (search rules, simp (c.put_decimal.ensures, c.put_byte.ensures, c.put_text-2.ensures, c.put_text.ensures, length-append) (omega (arith, at_size c.args.label.now c.args.row, c.requires)))

pub returns : goal.returns
returns c = simp (at_line_lem, c.put_byte-2.ensures, c.put_decimal.ensures, c.put_byte.ensures, c.put_text-2.ensures, c.put_text.ensures, append_assoc) refl
