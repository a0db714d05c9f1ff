-- `rows_store::operation::complement_of` is its definition.
use Rattle.rows_store.specs.Operation.{complement_of}
use Rattle.rows_store.proofs.Remainders.{remainder}
use Rattle.rows_store.proofs.operation.complement_of.Goals as goal

pub overflow_sub-result-2 : goal.overflow_sub-result-2
overflow_sub-result-2 c = remainder c.power_of-p.result c.args.x c.power_of-p.ensures.positive

pub returns : goal.returns
unfolding complement_of
returns c = rw c.power_of-p.ensures.is
