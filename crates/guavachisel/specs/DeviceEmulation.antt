-- What `guavachisel_emulate_devices` yields to a C caller: machine, devices, output and outcome, as the numbers of the emulator's report.
-- Assumes nothing.
use Rattle.std.specs.Prelude.{◌≡◌, List, ℕ}
use Rattle.devices.specs.Devices.{device_values, devices_of}
use Rattle.machine_state.specs.Registers.{values, machine_of}
use Rattle.emulator.specs.Emulate.{DeviceReport, emulate_devices}
use Rattle.guavachisel.specs.declared.outcome.Outcome.{Outcome}
use Rattle.guavachisel.specs.Outcome.{places, exchanging}
use Rattle.guavachisel.specs.Emulation as plain

-- what it speaks of: what the entry without devices does, and the bytes read and printed
abbrev pub outcome_of : DeviceReport → Outcome
outcome_of r = exchanging (plain.outcome_of r.report) r.exchange.read r.exchange.printed

-- what the emulator makes of a caller's arrays
abbrev pub answer_to : List ℕ → List ℕ → List ℕ → ℕ → List ℕ → List ℕ → DeviceReport
answer_to mem regs five budget input output = emulate_devices (machine_of regs) (devices_of five) mem budget input output

-- everything after the call: memory, machine, devices ("guavachisel_devices", the registers in their order), output and outcome
pub record EmulatedDevices (mem regs five : List ℕ) (budget : ℕ) (input paper mem' regs' five' paper' out' : List ℕ) : Type 0 where
  pub memory : mem' ≡ (answer_to mem regs five budget input paper).report.memory
  pub machine : regs' ≡ values (answer_to mem regs five budget input paper).report.machine
  pub devices : five' ≡ device_values (answer_to mem regs five budget input paper).devices
  pub output : paper' ≡ (answer_to mem regs five budget input paper).exchange.output
  pub outcome : out' ≡ places (outcome_of (answer_to mem regs five budget input paper))
