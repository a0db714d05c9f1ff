-- `text_fields::by_line::cut`: what stands after the LF begins one byte past the line.
use mathlib.Core.Path.{ap, ◌∙◌}
use Prim.Native.Nat.{ℕ, ◌+◌}
use native.Mathlib.Omega.{arith}
use lib.ListN.{length, drop, length-drop}
use lib.Seq.{take_all, length-take-le}
use Rattle.characters.specs.Ascii.{line_feed}
use Rattle.characters.specs.declared.Class.TheVariants.{Other}
use Rattle.characters.proofs.Runs.{run_le}
use Rattle.text_fields.specs.Fields.{until}
use Rattle.text_fields.proofs.by_line.cut.Goals as goal

pub returns-clause-below : goal.returns-clause-below
returns-clause-below c =
    let text = c.args.text.now in
    let n = length c.part_before-line.result.now in
    c.part.ensures
    ∙ take_all (length text) (drop (n + 1) text) (omega (arith, length-drop (n + 1) text))
    ∙ ap (λ (k : ℕ). drop (k + 1) text) (ap length c.part_before-line.ensures ∙ length-take-le (until line_feed text) text (run_le (Other line_feed) text))
