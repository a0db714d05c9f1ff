-- `evaluator::checks::widths_of`: place by place.
use mathlib.Core.Path.{refl}
use native.Mathlib.Omega.{arith}
use Rattle.evaluator.proofs.Padding.{filled_next, filled_end}
use Rattle.evaluator.proofs.checks.widths_of.Goals as goal

pub loop-place-init : goal.loop-place-init
loop-place-init c = record { within = omega arith; size = refl; are = λ k q. absurd (omega arith) }

pub loop-place-preserved : goal.loop-place-preserved
loop-place-preserved c = filled_next _ c.loop-place.place c.loop-place.width-items _ c.loop-place.invariant
    (omega (arith, c.loop-place-test.true, c.loop-place.invariant.size)) c.width_at.ensures

pub returns : goal.returns
returns c = filled_end _ c.loop-place.place c.loop-place.width-items c.loop-place.invariant (omega (arith, c.loop-place-test.false, c.loop-place.invariant.size))
