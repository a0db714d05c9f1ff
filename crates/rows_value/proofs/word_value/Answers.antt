-- `rows_value::word_value`: kind by kind.
use borrow.Author.Tests.{eq-eqb, ne_eqb, lt-ltb, le-ltb}
use lib.ListN.{get_or}
use Rattle.rows_value.specs.Words.{word_value}
use Rattle.rows_value.proofs.word_value.Goals as goal

pub returns-then-kind-lt-MEMORY : goal.returns-then-kind-lt-MEMORY
unfolding word_value
returns-then-kind-lt-MEMORY c = rw (lt-ltb (get_or c.args.code.now c.args.at 0) 3 c.if-kind-lt-MEMORY.true) c.leaf_value.ensures

pub returns-then-kind-eq-MEMORY : goal.returns-then-kind-eq-MEMORY
unfolding word_value
returns-then-kind-eq-MEMORY c = let kind = get_or c.args.code.now c.args.at 0 in
    rw (le-ltb kind 3 c.if-kind-lt-MEMORY.false, eq-eqb kind 3 c.if-kind-eq-MEMORY.true)

pub returns-else-kind-eq-MEMORY : goal.returns-else-kind-eq-MEMORY
unfolding word_value
returns-else-kind-eq-MEMORY c = let kind = get_or c.args.code.now c.args.at 0 in
    rw (le-ltb kind 3 c.if-kind-lt-MEMORY.false, ne_eqb kind 3 c.if-kind-eq-MEMORY.false) c.operate.ensures
