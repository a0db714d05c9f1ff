-- `machine_run::run::stretch`: what is left up to the limit, from the state that is reached, has the stretch of the whole.
use mathlib.Core.Path.{◌≡◌}
use Prim.Native.Nat.{◌-◌, ◌≤◌}
use lib.ListN.{length}
use Rattle.word.specs.Choice.{on, pick}
use Rattle.state.specs.Limits.{memory_words}
use Rattle.machine_state.specs.Processor.{at}
use Rattle.machine_run.specs.Stretch.{Ready, stretch_from}
use Rattle.machine_run.proofs.run.stretch.Given as goal

abbrev pub invariant-loop-steps : goal.invariant-loop-steps
invariant-loop-steps l = (l.steps ≤ l.limit) × Ready (at l.q l.memory)
    × (stretch_from l.devices (l.limit - l.done) l.done (at l.initial.q l.initial.memory) ≡ stretch_from l.devices (l.limit - l.steps) l.steps (at l.q l.memory))
    × (l.end ≡ pick (on l.q.run) l.limit 0) × (length l.memory ≡ memory_words)

abbrev pub decreases-loop-steps : goal.decreases-loop-steps
decreases-loop-steps l = l.limit - l.steps
