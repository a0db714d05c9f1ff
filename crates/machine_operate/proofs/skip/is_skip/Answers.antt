-- `machine_operate::skip::is_skip`: the code's test is the definition's.
use borrow.Author.Tests.{eq-eqb, ne_eqb}
use Rattle.machine_operate.specs.Operate.{skips}
use Rattle.machine_operate.proofs.skip.is_skip.Goals as goal

pub returns-then-i-ne0 : goal.returns-then-i-ne0
unfolding skips
returns-then-i-ne0 c = simp (ne_eqb _ _ c.if-i-ne0.true) c.skips_reversed.ensures

pub returns-else-i-ne0 : goal.returns-else-i-ne0
unfolding skips
returns-else-i-ne0 c = simp (eq-eqb _ _ c.if-i-ne0.false) c.skips_plain.ensures
