-- `text_description::line::is_fit`: the three tests.
use mathlib.Core.Path.{ap, ◌∙◌}
use mathlib.Core.Bool.{◌&&◌}
use Prim.Native.Nat.{ℕ}
use lib.Dec.{eqb, leb}
use lib.ListN.{length}
use Rattle.characters.specs.declared.Class.TheVariants.{Printable}
use Rattle.characters.proofs.Runs.{from_start}
use Rattle.text_limits.specs.Limits.{longest_line}
use Rattle.text_description.proofs.line.is_fit.Goals as goal

pub returns : goal.returns
returns c = ap (λ (k : ℕ). c.args.line.ended && leb (length c.args.line.bytes.now) longest_line && eqb k (length c.args.line.bytes.now)) (c.run_end-end.ensures ∙ from_start Printable c.args.line.bytes.now)
