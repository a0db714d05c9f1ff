-- `rows_store::operation::combine`: kind by kind.
use borrow.Author.Tests.{ne_eqb}
use Rattle.rows_store.specs.Operation.{combined}
use Rattle.rows_store.proofs.operation.combine.Goals as goal

pub returns-in-8 : goal.returns-in-8
unfolding combined
returns-in-8 c = rw c.in-8.is

pub returns-in-9 : goal.returns-in-9
unfolding combined
returns-in-9 c = rw c.in-9.is c.from.ensures

pub returns-in-10 : goal.returns-in-10
unfolding combined
returns-in-10 c = rw c.in-10.is c.from-in-10.ensures

pub returns-in-11 : goal.returns-in-11
unfolding combined
returns-in-11 c = rw c.in-11.is c.from-in-11.ensures

pub returns-in-12 : goal.returns-in-12
unfolding combined
returns-in-12 c = rw c.in-12.is

pub returns-in_default : goal.returns-in_default
unfolding combined
returns-in_default c = rw (ne_eqb _ _ c.in_default.in_default-own.rest.0.0.0.0.1, ne_eqb _ _ c.in_default.in_default-own.rest.0.0.0.1, ne_eqb _ _ c.in_default.in_default-own.rest.0.0.1, ne_eqb _ _ c.in_default.in_default-own.rest.0.1, ne_eqb _ _ c.in_default.in_default-own.rest.1)
