-- `desk_day_listing::run::put_run`: the heading, and the run listed as far as the loop has come.
use Prim.Native.Nat.{◌-◌}
use Rattle.machine_state.specs.Processor.{at as state}
use Rattle.desk_day_listing.specs.Listing.{budget}
use Rattle.desk_day_listing.proofs.Rest.{Listed}
use Rattle.desk_day_listing.proofs.run.put_run.Given as goal

abbrev pub invariant-loop-done : goal.invariant-loop-done
invariant-loop-done l = Listed (state l.initial.p l.initial.memory) l.initial.draft (state l.p l.memory) l.draft l.done

abbrev pub decreases-loop-done : goal.decreases-loop-done
decreases-loop-done l = budget - l.done
