-- `desk_run_lines::rows::row_below`: the rows above the label, and one.
use mathlib.Core.Path.{sym, ap, ◌∙◌}
use native.Mathlib.Numerals.{add-one}
use Rattle.desk_run_lines.specs.Rows.{row_after}
use Rattle.desk_run_lines.proofs.rows.row_below.Goals as goal

pub returns-in-Some : goal.returns-in-Some
returns-in-Some c = add-one _ ∙ ap row_after (sym c.in-Some.is ∙ c.passes.ensures)

pub returns-in-None : goal.returns-in-None
returns-in-None c = ap row_after (sym c.in-None.is ∙ c.passes.ensures)
