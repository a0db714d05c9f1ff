-- The emulator's answer for every memory, register set and budget: refusals 11 to 14, then the run.
-- Assumes nothing.
use Rattle.std.specs.Prelude.{ℕ, List, ◌++◌, length, Ok, Err}
use Rattle.std.specs.declared.result.Result.{Result}
use Rattle.state.specs.Refusals.{number_of, place_of, reason_of, reason_with, reason_number}
use Rattle.state.specs.Checks.{check_state}
use Rattle.state.specs.declared.Reason.{Reason}
use Rattle.state.specs.declared.Refusal.{Refusal}
use Rattle.devices.specs.declared.Devices.{Devices}
use Rattle.devices.specs.Devices.{device_widths, device_values}
use Rattle.devices.specs.Session.{Session, place_left, opened, Exchange, exchanged, untouched}
use Rattle.machine_state.specs.declared.Machine.{Machine}
use Rattle.emulator.specs.declared.Ended as answer
use Rattle.emulator.specs.declared.DeviceAnswer.{DeviceAnswer}
use Rattle.machine_state.specs.State.{State, start, registers}
use Rattle.machine_state.specs.Registers.{widths, values}
use Rattle.runs.specs.Run.{Ended}
use Rattle.machine_run.specs.Run.{run}
use Rattle.machine_console.specs.Console as machine
use Rattle.machine_console.specs.Console.{Console, console}

-- everything that a caller finds after the call, in document 01's numbers
pub record Report : Type 0 where
  -- 0, or the refusal's number
  pub number : ℕ
  -- the lowest offending place; 0 after a run
  pub place : ℕ
  -- "A refusal reports 0 steps"
  pub steps : ℕ
  -- 1 halted, 2 spent, 3 paper, 0 after a refusal
  pub reason : ℕ
  pub machine : Machine
  pub memory : List ℕ

abbrev pub ran : Machine → Reason → ℕ → List ℕ → Report
ran m why steps memory =
    record { number = 0; place = 0; steps = steps; reason = reason_number why; machine = m; memory = memory }

-- "memory, registers .. stay as they came"
abbrev pub refused : Refusal → Machine → List ℕ → Report
refused why m memory =
    record { number = number_of why; place = place_of why; steps = 0; reason = 0; machine = m; memory = memory }

-- the numbers and values of each case of the emulator's answer, for registers m that came in and the memory that is left
abbrev pub report : Machine → Result answer.Ended Refusal → List ℕ → Report
report m (Ok end) memory = ran end.machine end.reason end.steps memory
report m (Err why) memory = refused why m memory

-- what a run comes to
abbrev pub finished : Ended State → Report
finished r = ran (registers r.left) (reason_of r.left.run) r.steps r.left.memory

unfoldable pub emulate : Machine → List ℕ → ℕ → Report
emulate m memory budget = elim (check_state widths (values m) memory budget) [ Ok fit ↦ finished (run budget (start m memory)) | Err why ↦ refused why m memory ]

-- ---- with devices: document 02, Two

-- the same, and what became of the devices, the input and the output
pub record DeviceReport : Type 0 where
  pub report : Report
  pub devices : Devices
  pub exchange : Exchange

-- the answer's numbers and values, with the memory and the output that are left
abbrev pub device_report : Machine → DeviceAnswer → List ℕ → List ℕ → DeviceReport
device_report m r memory output =
    record {
      report = report m r.answer memory;
      devices = r.devices;
      exchange = record { read = r.read; printed = r.printed; output = output };
    }

-- what a run comes to
abbrev pub finished_devices : List ℕ → List ℕ → Ended (Session Console) → DeviceReport
finished_devices input output r =
    let s : State = r.left.engine.state in
    record {
      report = ran (registers s) (reason_with s.run (place_left (length output) r.left)) r.steps s.memory;
      devices = r.left.engine.devices;
      exchange = exchanged input output r.left;
    }

-- "after a refusal .. so does everything lent"
abbrev pub refused_devices : Refusal → Machine → Devices → List ℕ → List ℕ → DeviceReport
refused_devices why m c memory output = record { report = refused why m memory; devices = c; exchange = untouched output }

-- "the emulator has them, after the six in this order, only with devices": 13 looks at the eleven
unfoldable pub emulate_devices : Machine → Devices → List ℕ → ℕ → List ℕ → List ℕ → DeviceReport
emulate_devices m c memory budget input output =
    elim (check_state (widths ++ device_widths) (values m ++ device_values c) memory budget) [
      | Ok fit ↦ finished_devices input output (machine.run (length output) budget (opened (console (start m memory) c) input))
      | Err why ↦ refused_devices why m c memory output
    ]
