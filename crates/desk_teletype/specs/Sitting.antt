-- A sitting at the teletype: the run of the machine with keyboard and teleprinter in turns, each a call of the emulator with devices. The paper never ends: where a buffer
-- is full it is written, and the run goes on. What a call does is said by `emulate_devices`.
-- Assumes nothing.
use Rattle.std.specs.Prelude.{◌≡◌, Bool, ◌&&◌, List, ℕ, ◌-◌, ◌≤◌, eqb, ltb, length}
use Rattle.word.specs.Choice.{on, pick}
use Rattle.emulator.specs.Emulate.{DeviceReport, emulate_devices}
use Rattle.desk_teletype.specs.declared.Sitting.{Sitting}
use Rattle.desk_teletype.specs.declared.Turn.{Turn}

-- "all registers are 0, except PC = 0200 and RUN = 1", as for the day listing; and the whole budget is left
abbrev pub opening : ℕ → Sitting
opening budget =
    record {
      machine = record { lac = 0; pc = 0o200; run = 1; enable = 0; request = 0; switches = 0 };
      devices = record { key = 0; keyboard = 0; printer = 0; print = 0; mark = 0 };
      left = budget;
    }

-- the most steps of a turn, well below the emulator's limit, so that keys are fetched often
abbrev pub turn_steps : ℕ
turn_steps = 100000

-- the steps that a turn may make, of those that are left
unfoldable pub portion : ℕ → ℕ
portion left = pick (ltb left turn_steps) left turn_steps

-- what the emulator does in a turn
unfoldable pub outcome : Sitting → List ℕ → List ℕ → List ℕ → DeviceReport
outcome s memory input output = emulate_devices s.machine s.devices memory (portion s.left) input output

-- whether another turn follows: this one was not refused, the machine has not halted, and steps are left
abbrev pub follows : DeviceReport → ℕ → Bool
follows o left = eqb o.report.number 0 && on o.report.machine.run && on left

-- what it leaves
abbrev pub turn : Sitting → DeviceReport → Turn
turn s o =
    let left : ℕ = s.left - o.report.steps in
    record {
      sitting = record { machine = o.report.machine; devices = o.devices; left = left };
      read = o.exchange.read;
      printed = o.exchange.printed;
      more = follows o left;
    }

-- a turn's answer, and the memory and the output that are left. That the numbers are within the steps left, the input and the output follows, and is what a caller needs.
pub record Turned (s : Sitting) (words input room : List ℕ) (r : Turn) (words' room' : List ℕ) : Type 0 where
  pub answer : r ≡ turn s (outcome s words input room)
  pub memory : words' ≡ (outcome s words input room).report.memory
  pub output : room' ≡ (outcome s words input room).exchange.output
  pub left : r.sitting.left ≤ s.left
  pub read : r.read ≤ length input
  pub printed : r.printed ≤ length room'
