-- `evaluator::attached::has_width` is its definition.
use mathlib.Core.Path.{ap, ◌∙◌}
use Prim.Native.Nat.{ℕ}
use lib.Dec.{eqb}
use Rattle.evaluator.proofs.attached.has_width.Goals as goal

pub returns : goal.returns
returns c = ap (λ (n : ℕ). eqb n c.args.width) (c.from.ensures ∙ c.number_of.ensures)
