-- The machine with keyboard and teleprinter: a step, and a run.
-- Assumes nothing.
use Rattle.std.specs.Prelude.{Bool, ℕ}
use Rattle.std.specs.Int.Bits.{bit_or}
use Rattle.word.specs.Choice.{on, pick}
use Rattle.word.specs.Word.{next}
use Rattle.runs.specs.Run.{Ended}
use Rattle.devices.specs.declared.Devices.{Devices}
use Rattle.devices.specs.Session.{Session, Attached}
use Rattle.devices.specs.Session as session
use Rattle.machine_state.specs.State.{State, word, with_pc, with_request}
use Rattle.machine_state.specs.Instruction.{is_device}
use Rattle.machine_state.specs.Interrupt.{interrupt_test}
use Rattle.machine_run.specs.Step.{step_with}
use Rattle.machine_console.specs.Instructions.{devices_after, state_after}

-- the machine and its devices
pub record Console : Type 0 where
  pub state : State
  pub devices : Devices

abbrev pub console : State → Devices → Console
console s c = record { state = s; devices = c }

-- "INTERRUPT.REQUEST becomes the or of the two flags at each interrupt test."
abbrev pub line : Devices → ℕ
line c = bit_or c.keyboard c.printer

unfoldable pub line_test : Devices → State → State
line_test c s = interrupt_test (with_request (line c) s)

abbrev pub tested : Console → Console
tested x = console (line_test x.devices x.state) x.devices

-- the step of a device's word, its interrupt test included; a word that is none of the eight has no effect
unfoldable pub device_step : Console → Console
device_step x =
    let i : ℕ = word x.state.pc x.state in
    tested (console (state_after i x.devices (with_pc (next x.state.pc) x.state)) (devices_after i x.state.lac x.devices))

-- what a step does between its start and its print: every other word is executed as without devices
unfoldable pub console_step : Console → Console
console_step x =
    pick (is_device (word x.state.pc x.state)) (device_step x) (console (step_with (line_test x.devices) x.state) x.devices)

-- ---- a run

-- the machine's devices are the five registers that it has besides the six
abbrev pub attached : Attached Console
attached = record { get = λ (x : Console). x.devices; put = λ (c : Devices) (x : Console). console x.state c }

abbrev pub running : Console → Bool
running x = on x.state.run

-- a step with its start and its print
abbrev pub turn : Session Console → Session Console
turn x = session.turn attached console_step x

-- the run of a budget, with so many places in the output
abbrev pub run : ℕ → ℕ → Session Console → Ended (Session Console)
run room budget x = session.run attached running console_step room budget x
