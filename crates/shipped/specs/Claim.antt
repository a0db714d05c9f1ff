-- "Demand 3 is one claim about two whole runs": of the emulator, and of the evaluator on the shipped description, from one start; for every variant of the machine,
-- on its own description. It is said over the definitions that the entries' contracts cite; a shipped description is what the reader reads in its text.
-- Assumes nothing.
use Rattle.std.specs.Prelude.{◌≡◌, List, ◌++◌, ℕ, ◌≤◌, length, take, drop}
use Rattle.state.specs.Limits.{budget_limit, row_places}
use Rattle.state.specs.Acceptable.{Acceptable, Fitting}
use Rattle.devices.specs.declared.Devices.{Devices}
use Rattle.devices.specs.Session.{opened, untouched}
use Rattle.machine_state.specs.declared.Machine.{Machine}
use Rattle.machine_state.specs.State.{start}
use Rattle.machine_run.specs.Run as steps
use Rattle.machine_console.specs.Console as consoles
use Rattle.machine_console.specs.Console.{console}
use Rattle.emulator.specs.Emulate as emulator
use Rattle.emulator.specs.Emulate.{emulate, emulate_devices}
use Rattle.text_limits.specs.Limits.{most_registers}
use Rattle.text_description.specs.Description.{accepted, read_text}
use Rattle.runs.specs.Run.{Ended}
use Rattle.rows_value.specs.Value as rows
use Rattle.rows_cycles.specs.Cycle.{Cycle}
use Rattle.rows_cycles.specs.Run as cycles
use Rattle.rows_cycles.specs.Run.{running}
use Rattle.rows_cycles.specs.Devices.{run_devices}
use Rattle.evaluator.specs.Evaluate as evaluator
use Rattle.evaluator.specs.Evaluate.{evaluate, evaluate_devices, widths_of, without}
use Rattle.shipped_rows.specs.Variant.{Variant, plain, devices, registers_of, values_of}
use Rattle.shipped_rows.specs.Text.{shipped_text}
use Rattle.shipped_rows.specs.Shipped.{shipped}

-- the machine registers among the evaluator's places: "in this order, which begins the shipped description too"
abbrev pub machine_part : Variant → List ℕ → List ℕ
machine_part v registers = take (length (registers_of v)) registers

-- a start of both runs that meets no refusal: "given these five, input and output room equal at the start"
pub record Start (v : Variant) (m : Machine) (c : Devices) (registers memory : List ℕ) (budget : ℕ) (list : List ℕ) : Type 0 where
  -- "the register set grows to 32 places": the machine's registers, then "A shipped description's registers that the emulator lacks", "its working registers"
  pub places : length registers ≡ most_registers
  pub machine : machine_part v registers ≡ values_of v m c
  -- "a value fits a register if it is no wider"; in the unused part only 0 fits
  pub fitting : Fitting (widths_of (shipped v)) registers
  -- "Memory that meets neither 11 nor 12 is acceptable"
  pub acceptable : Acceptable memory
  -- neither "14 budget above 1,000,000" nor "15 (evaluator) row list shorter than 128 places"
  pub within : budget ≤ budget_limit
  pub roomy : row_places ≤ length list

-- ---- the two answers, each as the entry of the variant gives it; without devices the input stays unread and the output as it came

abbrev pub emulation : Variant → Machine → Devices → List ℕ → ℕ → List ℕ → List ℕ → emulator.DeviceReport
emulation plain m c memory budget input output = record { report = emulate m memory budget; devices = c; exchange = untouched output }
emulation devices m c memory budget input output = emulate_devices m c memory budget input output

abbrev pub evaluation : Variant → List ℕ → List ℕ → ℕ → List ℕ → List ℕ → List ℕ → evaluator.DeviceReport
evaluation plain registers memory budget list input output = without (evaluate (shipped_text plain) registers memory budget list) output
evaluation devices registers memory budget list input output = evaluate_devices (shipped_text devices) registers memory budget list input output

-- two answers with equal memory, equal machine registers, the same reason and the same number of steps; and "Unread input, printed bytes and these five join the end state"
pub record Same (v : Variant) (a : emulator.DeviceReport) (b : evaluator.DeviceReport) : Type 0 where
  pub memory : b.report.memory ≡ a.report.memory
  pub machine : machine_part v b.report.registers ≡ values_of v a.report.machine a.devices
  pub reason : b.report.reason ≡ a.report.reason
  pub steps : b.report.steps ≡ a.report.steps
  pub exchange : b.exchange ≡ a.exchange

-- ---- what they are: the run by the machine's steps, and the run by cycles of the shipped rows

abbrev pub by_steps : Variant → Machine → Devices → List ℕ → ℕ → List ℕ → List ℕ → emulator.DeviceReport
by_steps plain m c memory budget input output =
    record { report = emulator.finished (steps.run budget (start m memory)); devices = c; exchange = untouched output }
by_steps devices m c memory budget input output =
    emulator.finished_devices input output (consoles.run (length output) budget (opened (console (start m memory) c) input))

abbrev pub cycles_of : Variant → List ℕ → List ℕ → ℕ → Ended Cycle
cycles_of v registers memory budget = cycles.run (shipped v) budget (record { registers = registers; memory = memory })

-- the last cycle that a run leaves
abbrev pub last_cycle : Variant → rows.State → ℕ → List ℕ → List ℕ → Cycle
last_cycle plain s budget input output = (cycles.run (shipped plain) budget s).left
last_cycle devices s budget input output = (run_devices (shipped devices) (length output) budget s input).left.engine

abbrev pub by_cycles : Variant → rows.State → ℕ → List ℕ → List ℕ → List ℕ → evaluator.DeviceReport
by_cycles plain s budget list input output = without (evaluator.finished (running (shipped plain)) (cycles.run (shipped plain) budget s) list) output
by_cycles devices s budget list input output =
    evaluator.finished_devices (running (shipped devices)) (run_devices (shipped devices) (length output) budget s input) list input output

-- what holds of the two runs from a start
pub record Claim (v : Variant) (m : Machine) (c : Devices) (registers memory : List ℕ) (budget : ℕ) (list input output : List ℕ) : Type 0 where
  -- "Every description we ship keeps the rules for its text, and the reader accepts it"
  pub read : read_text (shipped_text v) ≡ accepted (shipped v)
  -- neither refuses: the one answer is that of the run by the machine's steps, the other that of the run by the rows' cycles
  pub emulated : emulation v m c memory budget input output ≡ by_steps v m c memory budget input output
  pub evaluated : evaluation v registers memory budget list input output ≡ by_cycles v (record { registers = registers; memory = memory }) budget list input output
  pub same : Same v (emulation v m c memory budget input output) (evaluation v registers memory budget list input output)
  -- "The evaluator lists the rows that acted in its last cycle, rising; later places stay"
  pub rows : let acted : List ℕ = (last_cycle v (record { registers = registers; memory = memory }) budget input output).acted in
      (evaluation v registers memory budget list input output).report.list ≡ acted ++ drop (length acted) list

-- the two programs' own answers, each on its own memory and output: what each is, and that they are the same wherever the two memories hold the same words, the two
-- outputs the same bytes, the evaluator's first registers are the machine's, and nothing is refused
pub record Together (v : Variant) (m : Machine) (c : Devices) (registers first second : List ℕ) (budget : ℕ) (list input left right : List ℕ)
    (a : emulator.DeviceReport) (b : evaluator.DeviceReport) : Type 0 where
  pub emulated : a ≡ emulation v m c first budget input left
  pub evaluated : b ≡ evaluation v registers second budget list input right
  pub agree : second ≡ first → right ≡ left → machine_part v registers ≡ values_of v m c → b.report.number ≡ 0 → Same v a b
