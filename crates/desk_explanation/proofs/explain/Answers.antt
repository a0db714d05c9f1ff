-- `desk_explanation::explain`: the whole text is one chunk.
use borrow.Author.Rules.{rules}
use mathlib.Core.Path.{ap, ◌∙◌}
use mathlib.Core.List.{[]}
use Rattle.desk_explanation.specs.Answered.{scan_explanation}
use Rattle.desk_explanation.proofs.ByText.{scan_explanation_lem}
use Rattle.desk_explanation.proofs.explain.Goals as goal

pub returns : goal.returns
returns c = let read = c.scanned-t.ensures.goes_on [] c.begin-s.ensures in
    rw (← (ap scan_explanation read ∙ scan_explanation_lem c.args.text.now (search rules))) c.explanation.ensures
