-- `machine_operate::skip::skip`: the code's test is the definition's.
use Rattle.machine_operate.proofs.skip.skip.Goals as goal

pub returns-then-is_skip : goal.returns-then-is_skip
returns-then-is_skip c = rw (← c.is_skip.ensures, c.if-is_skip.true) c.increment.ensures

pub returns-else-is_skip : goal.returns-else-is_skip
returns-else-is_skip c = rw (← c.is_skip.ensures, c.if-is_skip.false)
