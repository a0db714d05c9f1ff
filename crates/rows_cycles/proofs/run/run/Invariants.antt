-- `rows_cycles::run::run`: cycle by cycle.
use Prim.Native.Nat.{◌-◌}
use Rattle.std.specs.Prelude.{is_some}
use Rattle.rows_cycles.specs.Stored.{places_or}
use Rattle.rows_cycles.proofs.Courses.{Going}
use Rattle.rows_cycles.proofs.run.run.Given as goal

abbrev pub invariant-loop-done : goal.invariant-loop-done
invariant-loop-done l = Going l.rows.code.now l.rows.table.now l.rows.count l.place (is_some l.devices) (places_or l.devices) l.input l.initial.output l.budget (record { registers = l.initial.q.values; memory = l.initial.memory }) l.done l.n
    (record { registers = l.q.values; memory = l.memory }) l.list l.read l.printed l.output

abbrev pub decreases-loop-done : goal.decreases-loop-done
decreases-loop-done l = l.budget - l.done
