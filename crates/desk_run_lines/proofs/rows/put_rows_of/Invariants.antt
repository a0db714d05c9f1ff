-- `desk_run_lines::rows::put_rows_of`: the rows read have been written.
use Rattle.std.proofs.Common.{◌≡◌, ◌+◌, ◌*◌, ◌≤◌, ◌++◌, length, take}
use Rattle.desk_run_lines.specs.Rows.{row_lines}
use Rattle.desk_run_lines.specs.Sizes.{row_line_bytes}
use Rattle.desk_run_lines.proofs.rows.put_rows_of.Given as goal

abbrev pub invariant-loop-k : goal.invariant-loop-k
invariant-loop-k l =
    (length l.draft ≤ length l.initial.draft + row_line_bytes * l.k-index) × (l.draft ≡ l.initial.draft ++ row_lines l.text (take l.k-index l.rows))
