-- `rows_value::pops`: kind by kind.
use borrow.Author.Tests.{eq-eqb, ne_eqb, lt-ltb, le-ltb}
use Rattle.rows_value.specs.Words.{pops}
use Rattle.rows_value.proofs.pops.Goals as goal

pub returns-then-kind-lt-MEMORY : goal.returns-then-kind-lt-MEMORY
unfolding pops
returns-then-kind-lt-MEMORY c = rw (lt-ltb c.args.kind 3 c.if-kind-lt-MEMORY.true)

pub returns-then-kind-eq-JOIN : goal.returns-then-kind-eq-JOIN
unfolding pops
returns-then-kind-eq-JOIN c = rw (le-ltb c.args.kind 3 c.if-kind-lt-MEMORY.false, eq-eqb c.args.kind 5 c.if-kind-eq-JOIN.true)

pub returns-then-kind-lt-SUM : goal.returns-then-kind-lt-SUM
unfolding pops
returns-then-kind-lt-SUM c = rw (le-ltb c.args.kind 3 c.if-kind-lt-MEMORY.false, ne_eqb c.args.kind 5 c.if-kind-eq-JOIN.false, lt-ltb c.args.kind 8 c.if-kind-lt-SUM.true)

pub returns-else-kind-lt-SUM : goal.returns-else-kind-lt-SUM
unfolding pops
returns-else-kind-lt-SUM c = rw (le-ltb c.args.kind 3 c.if-kind-lt-MEMORY.false, ne_eqb c.args.kind 5 c.if-kind-eq-JOIN.false, le-ltb c.args.kind 8 c.if-kind-lt-SUM.false)
