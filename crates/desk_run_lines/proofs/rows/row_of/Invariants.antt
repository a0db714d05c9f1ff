-- `desk_run_lines::rows::row_of`: row k of the text is a row of what is left of it.
use mathlib.Core.Path.{◌≡◌}
use mathlib.Core.List.{[]}
use Prim.Native.Nat.{◌-◌}
use lib.ListN.{get_or}
use Rattle.text_fields.specs.Fields.{lines}
use Rattle.desk_run_lines.specs.Rows.{row_texts}
use Rattle.desk_run_lines.proofs.rows.row_of.Given as goal

abbrev pub invariant-loop-line : goal.invariant-loop-line
invariant-loop-line l = get_or (row_texts (lines l.text)) (l.k - 1) [] ≡ get_or (row_texts (lines l.line-iterator.rest.now)) l.left []
