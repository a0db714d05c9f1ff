-- `rows_store::operation::rotated_by`: by the way that it turns.
use mathlib.Core.Path.{ap, ◌∙◌}
use Prim.Native.Nat.{ℕ, ◌-◌}
use native.Mathlib.Omega.{arith}
use borrow.Author.Tests.{eq-eqb, ne_eqb}
use Rattle.word.specs.Word.{swapped}
use Rattle.rows_store.specs.Shifts.{cut}
use Rattle.rows_store.specs.Operation.{rotated_by}
use Rattle.rows_store.proofs.Remainders.{rest_le}
use Rattle.rows_store.proofs.operation.rotated_by.Goals as goal

pub returns-then-w-eq0 : goal.returns-then-w-eq0
unfolding rotated_by
returns-then-w-eq0 c = rw (eq-eqb c.args.w 0 c.if-w-eq0.true, rotated_by)

pub overflow_sub-w : goal.overflow_sub-w
overflow_sub-w c = rest_le _ _ c.if-w-eq0.false c.places-n.ensures

pub exchanged-requires : goal.exchanged-requires
exchanged-requires c = omega (arith, overflow_sub-w c, c.requires)

pub overflow_sub-w-else-kind-eq-LEFT : goal.overflow_sub-w-else-kind-eq-LEFT
overflow_sub-w-else-kind-eq-LEFT c = rest_le _ _ c.if-w-eq0.false c.places-n.ensures

pub exchanged-requires-else-kind-eq-LEFT : goal.exchanged-requires-else-kind-eq-LEFT
exchanged-requires-else-kind-eq-LEFT c = omega (arith, overflow_sub-w-else-kind-eq-LEFT c, c.requires)

pub returns-then-kind-eq-LEFT : goal.returns-then-kind-eq-LEFT
unfolding rotated_by
returns-then-kind-eq-LEFT c = rw (ne_eqb c.args.w 0 c.if-w-eq0.false, eq-eqb c.args.kind 6 c.if-kind-eq-LEFT.true, rotated_by)
    (c.exchanged.ensures ∙ ap (λ (n : ℕ). cut (swapped (c.args.w - n) n c.args.x)) c.places-n.ensures)

pub returns-else-kind-eq-LEFT : goal.returns-else-kind-eq-LEFT
unfolding rotated_by
returns-else-kind-eq-LEFT c = rw (ne_eqb c.args.w 0 c.if-w-eq0.false, ne_eqb c.args.kind 6 c.if-kind-eq-LEFT.false, rotated_by)
    (c.exchanged-else-kind-eq-LEFT.ensures ∙ ap (λ (n : ℕ). cut (swapped n (c.args.w - n) c.args.x)) c.places-n.ensures)
