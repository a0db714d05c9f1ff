-- `machine_operate::rotate::increase_and_rotate`: the sum with bit 11 is the increase, and the product's two parts together are the rotation.
use mathlib.Core.Path.{ap, ◌∙◌}
use Prim.Native.Nat.{◌+◌, ◌/◌, ◌%◌}
use native.Mathlib.Omega.{arith}
use Rattle.machine_state.proofs.Lac.{wrapped_lt}
use Rattle.machine_operate.specs.Operate.{rotated}
use Rattle.machine_operate.proofs.Changes.{increased_is}
use Rattle.machine_operate.proofs.rotate.increase_and_rotate.Goals as goal

pub overflow_mul-x : goal.overflow_mul-x
overflow_mul-x c = let h = c.factor.ensures.fits _ (wrapped_lt (c.args.lac + c.args.i / 1 % 2)) in omega (arith, h)

pub overflow_add-result : goal.overflow_add-result
overflow_add-result c = let h = c.factor.ensures.fits _ (wrapped_lt (c.args.lac + c.args.i / 1 % 2)) in omega (arith, h)

pub returns : goal.returns
returns c = c.factor.ensures.rotates _ (wrapped_lt (c.args.lac + c.args.i / 1 % 2)) ∙ ap (rotated c.args.i) (increased_is c.args.i c.requires)
