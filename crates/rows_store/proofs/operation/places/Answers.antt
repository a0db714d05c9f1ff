-- `rows_store::operation::places`: what is below the width stays.
use mathlib.Core.Path.{sym}
use native.Mathlib.Nat.{mod-eq_of_lt}
use Rattle.rows_store.proofs.operation.places.Goals as goal

pub returns-then-b-w : goal.returns-then-b-w
returns-then-b-w c = sym (mod-eq_of_lt c.if-b-w.true)
