-- `machine_console::run::run_devices`: what is left of the budget, from the session that is reached, has the run of the whole.
use mathlib.Core.Path.{◌≡◌}
use Prim.Native.Nat.{◌-◌}
use lib.ListN.{length}
use Rattle.state.specs.Limits.{memory_words}
use Rattle.machine_state.specs.Processor.{at}
use Rattle.machine_console.proofs.Kept.{Kept}
use Rattle.machine_console.proofs.run.run_devices.Given as goal

abbrev pub invariant-loop-b : goal.invariant-loop-b
invariant-loop-b l = Kept (at l.initial.q l.initial.memory) l.initial.d l.budget l.input l.initial.output (at l.q l.memory) l.d l.steps l.read l.printed l.output × (length l.memory ≡ memory_words)

abbrev pub decreases-loop-b : goal.decreases-loop-b
decreases-loop-b l = l.budget - l.steps
