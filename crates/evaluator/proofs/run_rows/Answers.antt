-- `evaluator::run_rows`: the run by the rows' plan, then the list.
use Rattle.evaluator.proofs.run_rows.Goals as goal

pub invariant_of-ready : goal.invariant_of-ready
invariant_of-ready c = record { few = c.requires.few_rows; planned = c.plan_rows.ensures }
