-- `rows_store::operation::operate`: kind by kind.
use borrow.Author.Tests.{eq-eqb, ne_eqb, lt-ltb, le-ltb}
use Rattle.rows_store.specs.Operation.{operated}
use Rattle.rows_store.proofs.operation.operate.Goals as goal

pub returns-then-kind-eq-NOT : goal.returns-then-kind-eq-NOT
unfolding operated
returns-then-kind-eq-NOT c = rw (eq-eqb c.args.kind 4 c.if-kind-eq-NOT.true) c.complement_of.ensures

pub returns-then-kind-eq-JOIN : goal.returns-then-kind-eq-JOIN
unfolding operated
returns-then-kind-eq-JOIN c = rw (ne_eqb c.args.kind 4 c.if-kind-eq-NOT.false, eq-eqb c.args.kind 5 c.if-kind-eq-JOIN.true) c.joined_to.ensures

pub returns-then-kind-lt-SUM : goal.returns-then-kind-lt-SUM
unfolding operated
returns-then-kind-lt-SUM c = rw (ne_eqb c.args.kind 4 c.if-kind-eq-NOT.false, ne_eqb c.args.kind 5 c.if-kind-eq-JOIN.false, lt-ltb c.args.kind 8 c.if-kind-lt-SUM.true)
    c.rotated_by.ensures

pub returns-else-kind-lt-SUM : goal.returns-else-kind-lt-SUM
unfolding operated
returns-else-kind-lt-SUM c = rw (ne_eqb c.args.kind 4 c.if-kind-eq-NOT.false, ne_eqb c.args.kind 5 c.if-kind-eq-JOIN.false, le-ltb c.args.kind 8 c.if-kind-lt-SUM.false)
    c.combine.ensures
