-- `machine_operate::groups::halt`: the code's test is the definition's.
use borrow.Author.Tests.{eq-eqb, ne_eqb}
use Rattle.machine_operate.proofs.groups.halt.Goals as goal

pub returns-then-i-ne0 : goal.returns-then-i-ne0
returns-then-i-ne0 c = simp (ne_eqb _ _ c.if-i-ne0.true)

pub returns-else-i-ne0 : goal.returns-else-i-ne0
returns-else-i-ne0 c = simp (eq-eqb _ _ c.if-i-ne0.false)
