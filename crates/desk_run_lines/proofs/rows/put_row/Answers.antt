-- `desk_run_lines::rows::put_row`: number, TAB, text, LF, and the line of its label.
use Rattle.std.proofs.Common.{rules, arith, refl, ◌≤◌, length, append_assoc, length-append}
use Rattle.page.proofs.Numbers.{decimal_length}
use Rattle.desk_run_lines.specs.Rows.{label_line}
use Rattle.desk_run_lines.specs.Sizes.{label_line_bytes, row_text_bytes}
use Rattle.desk_run_lines.proofs.RowTexts.{row_line_lem}
use Rattle.desk_run_lines.proofs.rows.put_row.Goals as goal

pub put_decimal-requires : goal.put_decimal-requires
put_decimal-requires c = (search rules, omega (arith, decimal_length 2 c.args.k (omega arith), c.requires.room))

pub put_byte-requires : goal.put_byte-requires
put_byte-requires c = (search rules, simp (c.put_decimal.ensures, length-append) (omega (arith, decimal_length 2 c.args.k (omega arith), c.requires.room)))

pub put_text-requires : goal.put_text-requires
put_text-requires c =
    let text : length c.row_of-line.result.now ≤ row_text_bytes = rw c.row_of-line.ensures (c.requires.short.row c.args.k) in
    (search rules, simp (c.put_byte.ensures, c.put_decimal.ensures, length-append) (omega (arith, decimal_length 2 c.args.k (omega arith), text, c.requires.room)))

pub put_byte-requires-2 : goal.put_byte-requires-2
put_byte-requires-2 c =
    let text : length c.row_of-line.result.now ≤ row_text_bytes = rw c.row_of-line.ensures (c.requires.short.row c.args.k) in
    (search rules, simp (c.put_text.ensures, c.put_byte.ensures, c.put_decimal.ensures, length-append) (omega (arith, decimal_length 2 c.args.k (omega arith), text, c.requires.room)))

pub put_label-requires-clause-room : goal.put_label-requires-clause-room
put_label-requires-clause-room c =
    let text : length c.row_of-line.result.now ≤ row_text_bytes = rw c.row_of-line.ensures (c.requires.short.row c.args.k) in
    let label : length (label_line c.args.text.now c.row_of-line.result.now) ≤ label_line_bytes = rw c.row_of-line.ensures (c.requires.short.label c.args.k) in
    simp (c.put_byte-2.ensures, c.put_text.ensures, c.put_byte.ensures, c.put_decimal.ensures, length-append)
    (omega (arith, decimal_length 2 c.args.k (omega arith), text, label, c.requires.room))

pub returns : goal.returns
returns c =
    simp (row_line_lem, c.put_label.ensures, c.put_byte-2.ensures, c.put_text.ensures, c.put_byte.ensures, c.put_decimal.ensures, c.row_of-line.ensures, append_assoc) refl
