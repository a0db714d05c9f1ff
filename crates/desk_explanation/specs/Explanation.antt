-- What `explain` prints, from the bytes that it reads to the bytes that it writes. The sentences quoted are README's, of "Explain a run", and document 01's. Whether the run is one with
-- devices is the argument `d`.
-- Assumes nothing.
use Rattle.std.specs.Prelude.{Bool, not, ◌||◌, List, [], ◌++◌, ℕ, ◌-◌, ltb, length, take, drop, replicate}
use Rattle.word.specs.Choice.{pick}
use Rattle.devices.specs.declared.Devices.{Devices}
use Rattle.devices.specs.Devices.{devices_of}
use Rattle.machine_state.specs.declared.Machine.{Machine}
use Rattle.machine_state.specs.Registers.{machine_registers, machine_of}
use Rattle.state.specs.Refusals.{reason_with}
use Rattle.emulator.specs.Emulate.{Report, DeviceReport}
use Rattle.rows_cycles.specs.Cycle.{Cycle}
use Rattle.desk_last_lines.specs.LastLines.{end_line, or_refused}
use Rattle.text_fields.specs.Fields.{lines}
use Rattle.text_limits.specs.Limits.{most_registers}
use Rattle.shipped_rows.specs.Variant.{registers_of, values_of}
use Rattle.shipped_rows.specs.Text.{shipped_text}
use Rattle.shipped.specs.Claim.{by_steps, last_cycle}
use Rattle.desk_image.specs.Input.{first_unfit}
use Rattle.desk_inquiry.specs.Input.{Inquiry, is_fit_line, asked}
use Rattle.desk_exchange.specs.Exchange.{exchange_lines}
use Rattle.desk_last_step.specs.LastStep.{last_step}
use Rattle.desk_run_lines.specs.Registers.{register_lines, variant_of, working_registers, working_values}
use Rattle.desk_run_lines.specs.Rows.{row_lines}

-- "the paper has 64 places"
abbrev pub paper_places : ℕ
paper_places = 64

abbrev pub paper : List ℕ
paper = replicate paper_places 0

-- whether one is left; a run without devices needs none
abbrev pub has_place : Bool → ℕ → Bool
has_place d printed = not d || ltb printed paper_places

-- "how many bytes of the input arrived" and "the bytes printed", with devices only
abbrev pub exchange_of : Bool → ℕ → List ℕ → List ℕ
exchange_of d read printed = pick d (exchange_lines read printed) []

-- a machine's registers, as the evaluator takes them: its "32 places", with 0 in those of no machine register
abbrev pub places_of : Bool → Machine → Devices → List ℕ
places_of d m c = values_of (variant_of d) m c ++ replicate (most_registers - length (registers_of (variant_of d))) 0

-- what is said of a run of the machine, of PC and memory before its last step, and of the rows, by their registers and those that acted: "how the run ended"; what was read and printed;
-- "the instruction of the last step" and each "word of memory that the last step changed"; the "machine registers, then the working registers of the description"; each "row that acted in
-- the last step"
unfoldable pub told : Bool → DeviceReport → ℕ → List ℕ → List ℕ → List ℕ → List ℕ
told d r pc before places rows =
    end_line r.report.steps (reason_with r.report.machine.run (has_place d r.exchange.printed))
    ++ exchange_of d r.exchange.read (take r.exchange.printed r.exchange.output)
    ++ last_step d r.report.steps pc before r.report.memory
    ++ register_lines (registers_of (variant_of d)) (values_of (variant_of d) r.report.machine r.devices)
    ++ register_lines (working_registers (variant_of d)) (working_values (variant_of d) places)
    ++ row_lines (shipped_text (variant_of d)) rows

-- a run of the machine, by its steps, on blank paper
abbrev pub ran_of : Bool → Machine → Devices → List ℕ → ℕ → List ℕ → DeviceReport
ran_of d m c memory budget input = by_steps (variant_of d) m c memory budget input paper

-- where a run of one step fewer ends, the last of so many steps begins: the law `last_step`
abbrev pub before_last : Bool → Machine → Devices → List ℕ → ℕ → List ℕ → Report
before_last d m c memory steps input = (ran_of d m c memory (steps - 1) input).report

-- the last cycle of the shipped rows
abbrev pub cycle_of : Bool → Machine → Devices → List ℕ → ℕ → List ℕ → Cycle
cycle_of d m c memory budget input = last_cycle (variant_of d) (record { registers = places_of d m c; memory = memory }) budget input paper

-- of a start: by the machine's steps, and by the cycles of the shipped rows. The two runs end alike: `runs_agree` of crates/shipped.
unfoldable pub explained : Bool → Machine → Devices → List ℕ → ℕ → List ℕ → List ℕ
explained d m c memory budget input =
    let r : DeviceReport = ran_of d m c memory budget input in
    let before : Report = before_last d m c memory r.report.steps input in
    let last : Cycle = cycle_of d m c memory budget input in
    told d r before.machine.pc before.memory last.state.registers last.acted

-- the devices' registers among those that are asked for
abbrev pub devices_in : List ℕ → Devices
devices_in registers = devices_of (drop (length machine_registers) registers)

-- and of what is asked
abbrev pub answer_to : Inquiry → List ℕ
answer_to q = explained q.devices (machine_of q.registers) (devices_in q.registers) q.memory q.budget q.input

-- the output for an input: "Any other line is unfit: the output is then only `refused`, TAB, the first such line's number"
unfoldable pub explanation : List ℕ → List ℕ
explanation text = or_refused (first_unfit is_fit_line 1 (lines text)) (answer_to (asked text))
