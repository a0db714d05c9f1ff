-- `evaluator::attached::attach`: register by register.
use Rattle.evaluator.proofs.Attaching.{Attaching}
use Rattle.evaluator.proofs.attached.attach.Given as goal

abbrev pub invariant-loop-k : goal.invariant-loop-k
invariant-loop-k l = Attaching l.text l.d l.k l.place-items
