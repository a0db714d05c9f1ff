-- `evaluator::checks::widths_of`: place by place.
use Rattle.evaluator.proofs.Padding.{Filled}
use Rattle.evaluator.proofs.checks.widths_of.Given as goal

abbrev pub invariant-loop-place : goal.invariant-loop-place
invariant-loop-place l = Filled l.d l.place l.width-items
