-- `rows_store::shifts::joined_to` is its definition.
use Rattle.rows_store.specs.Shifts.{joined_to}
use borrow.Author.Rules.{rules}
use Rattle.rows_store.proofs.shifts.joined_to.Goals as goal

pub returns : goal.returns
unfolding joined_to
returns c = search rules
