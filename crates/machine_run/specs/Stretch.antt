-- What the code holds meanwhile: steps in one stretch. With devices the machine pauses before a word of theirs, which is left to those that have the devices.
-- Assumes nothing.
use Rattle.std.specs.Prelude.{◌≡◌, Bool, true, not, ◌&&◌, ℕ, ◌+◌, ◌-◌, ◌^◌, eqb, leb}
use Rattle.word.specs.Choice.{pick}
use Rattle.runs.specs.Run.{Ended, run_from}
use Rattle.machine_state.specs.State.{State, lac_bits, Good, word, with_lac, with_pc, with_run}
use Rattle.machine_state.specs.Instruction.{is_device}
use Rattle.machine_state.specs.Interrupt.{interrupt_test, tested_if, ion, input_output}
use Rattle.machine_run.specs.Step.{step}
use Rattle.machine_run.specs.Run.{running}

-- a machine that is paused before the word at pc: RUN is 0, so that the loop ends, and LAC is past its width
abbrev pub paused_at : ℕ → State → State
paused_at pc s = with_pc pc (with_lac (s.lac + 2 ^ lac_bits) (with_run 0 s))

abbrev pub is_paused : State → Bool
is_paused s = leb (2 ^ lac_bits) s.lac

-- and the machine that was
abbrev pub unpaused : State → State
unpaused s = with_lac (s.lac - 2 ^ lac_bits) (with_run 1 s)

-- op 6 of the word i that was fetched from `last`, and the step's interrupt test; a pause gives the word back
unfoldable pub input_output_or : Bool → ℕ → ℕ → State → State
input_output_or devices i last s = pick (devices && is_device i) (paused_at last s) (tested_if interrupt_test (not (eqb i ion)) (input_output i s))

-- a step, or a pause
unfoldable pub advance : Bool → State → State
advance devices s = pick (devices && is_device (word s.pc s)) (paused_at s.pc s) (step s)

-- steps up to a limit, a halt or a pause, `done` having been made; a pause counts as the step that it leaves to others
abbrev pub stretch_from : Bool → ℕ → ℕ → State → Ended State
stretch_from devices left done s = run_from running (advance devices) left done s

-- a stretch leaves a good state, or one that is good but for its pause
pub record Ready (s : State) : Type 0 where
  pub good : Good (pick (is_paused s) (unpaused s) s)
  pub stopped : is_paused s ≡ true → s.run ≡ 0
