-- `state::reason_with`: the code's two tests are the definition's.
use borrow.Author.Tests.{eq-eqb, ne_eqb}
use Rattle.state.proofs.reason_with.Goals as goal

pub returns-then-run-eq0 : goal.returns-then-run-eq0
returns-then-run-eq0 c = simp (eq-eqb _ _ c.if-run-eq0.true)

pub returns-then-place : goal.returns-then-place
returns-then-place c = simp (ne_eqb _ _ c.if-run-eq0.false, c.if-place.true)

pub returns-else-place : goal.returns-else-place
returns-else-place c = simp (ne_eqb _ _ c.if-run-eq0.false, c.if-place.false)
