-- What the code leaves of a run with devices: the session that its numbers stand for, and the output.
-- Assumes nothing.
use Rattle.std.specs.Prelude.{◌≡◌, List, ℕ, ◌≤◌, length, take}
use Rattle.runs.specs.Run.{ended}
use Rattle.devices.specs.declared.Devices.{Devices}
use Rattle.devices.specs.Devices.{written}
use Rattle.devices.specs.Session.{opened}
use Rattle.devices.specs.Held.{session}
use Rattle.machine_state.specs.State.{State}
use Rattle.machine_state.specs.Processor.{at}
use Rattle.machine_console.specs.declared.run.SessionEnd.{SessionEnd}
use Rattle.machine_console.specs.Console.{console, run}

pub record Ran (s : State) (c : Devices) (budget : ℕ) (input output memory after : List ℕ) (r : SessionEnd) : Type 0 where
  pub same : ended r.steps (session (console (at r.processor memory) r.devices) r.read r.printed input after)
      ≡ run (length output) budget (opened (console s c) input)
  pub size : length after ≡ length output
  pub buffer : after ≡ written (take r.printed after) output
  pub read : r.read ≤ length input
  pub printed : r.printed ≤ length output
