-- `rows_value::value_between` is its definition.
use native.Mathlib.Omega.{arith}
use lib.Dec.{leb}
use borrow.Author.Tests.{leb-true}
use Rattle.laws.proofs.Joined.{and_left, and_right}
use Rattle.rows_value.specs.Words.{code_places, between}
use Rattle.rows_value.proofs.value_between.Goals as goal

pub overflow_sub-to : goal.overflow_sub-to
overflow_sub-to c = leb-true _ _ (and_left _ _ c.if-from-to.true)

pub value_of-requires : goal.value_of-requires
value_of-requires c = let last = leb-true c.args.to code_places (and_right (leb c.args.from c.args.to) (leb c.args.to code_places) c.if-from-to.true) in
    record { words_fit = omega (arith, overflow_sub-to c, last); whole_memory = c.requires }

pub returns-then-from-to : goal.returns-then-from-to
unfolding between
returns-then-from-to c = rw (c.if-from-to.true, between) c.value_of.ensures

pub returns-else-from-to : goal.returns-else-from-to
unfolding between
returns-else-from-to c = rw (c.if-from-to.false, between)
