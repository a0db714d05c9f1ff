-- `rows_cycles::attached::begin_cycle`: with devices, and nothing new.
use mathlib.Core.Bool.{true}
use mathlib.Core.Path.{refl}
use Rattle.rows_cycles.proofs.Begins.{begins_still}
use borrow.Author.Rules.{rules}
use Rattle.rows_cycles.proofs.attached.begin_cycle.Goals as goal

pub returns-then-now-read : goal.returns-then-now-read
returns-then-now-read c = rw c.in-Some.is
    (begins_still c.in-Some.places (search rules) true refl _ _ _ _ c.devices_at-c.ensures c.begin-begun.ensures c.if-now-read.true)
