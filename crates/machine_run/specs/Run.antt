-- The machine's run: "A run makes steps .., each from what the last one left, while RUN is 1 and fewer than the budget are done."
-- Assumes nothing.
use Rattle.std.specs.Prelude.{Bool, ℕ}
use Rattle.word.specs.Choice.{on}
use Rattle.runs.specs.Run as runs
use Rattle.runs.specs.Run.{Ended}
use Rattle.machine_state.specs.State.{State}
use Rattle.machine_run.specs.Step.{step}

-- "A step happens only while RUN is 1"
abbrev pub running : State → Bool
running s = on s.run

-- the run of a budget
abbrev pub run : ℕ → State → Ended State
run budget s = runs.run running step budget s
