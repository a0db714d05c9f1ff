-- What the code holds on its way to an explanation: the explanation of what a scanner keeps when the input ends, and what is taken from the engines' answers. A reader
-- need not believe these definitions: the law `scan_explanation_lem` says that after a text they come to the text's explanation.
-- Assumes nothing.
use Rattle.std.specs.Prelude.{◌≡◌, Bool, List, [], map, ℕ, ◌<◌, ◌≤◌, length, Ok, Err}
use Rattle.std.specs.declared.result.Result.{Result}
use Rattle.characters.specs.Named.{Named}
use Rattle.state.specs.Checks.{check_state}
use Rattle.state.specs.Refusals.{Verdict}
use Rattle.state.specs.declared.Refusal.{Refusal}
use Rattle.devices.specs.declared.Devices.{Devices}
use Rattle.machine_state.specs.declared.Machine.{Machine}
use Rattle.machine_state.specs.Registers.{machine_of}
use Rattle.emulator.specs.Emulate.{DeviceReport}
use Rattle.emulator.specs.declared.Ended as emulator
use Rattle.desk_last_lines.specs.LastLines.{or_refused}
use Rattle.evaluator.specs.Evaluate.{Outcome}
use Rattle.shipped_rows.specs.Variant.{registers_of, values_of}
use Rattle.desk_image.specs.Scan.{Scan, unfit_line}
use Rattle.desk_inquiry.specs.Input.{Inquiry}
use Rattle.desk_last_step.specs.LastStep.{change_lines}
use Rattle.desk_last_step.specs.Sizes.{change_lines_bytes}
use Rattle.desk_run_lines.specs.Registers.{variant_of}
use Rattle.desk_explanation.specs.Explanation.{devices_in, explained}
use Rattle.desk_explanation.specs.declared.Ending.{Ending}

-- the output by a state check's verdict. No text leaves another state than a fit one; another has no run, and nothing is printed.
abbrev pub checked_by : Verdict → List ℕ → List ℕ
checked_by (Ok fit) text = text
checked_by (Err why) text = []

-- the check of a start, with devices or without
abbrev pub check_of : Bool → Machine → Devices → List ℕ → ℕ → Verdict
check_of d m c memory budget = check_state (map (λ (r : Named). r.number) (registers_of (variant_of d))) (values_of (variant_of d) m c) memory budget

unfoldable pub answered : Bool → Machine → Devices → List ℕ → ℕ → List ℕ → List ℕ
answered d m c memory budget input = checked_by (check_of d m c memory budget) (explained d m c memory budget input)

-- the output where the input ends
abbrev pub reply : Inquiry → List ℕ
reply q = answered q.devices (machine_of q.registers) (devices_in q.registers) q.memory q.budget q.input

unfoldable pub scan_explanation : Scan Inquiry → List ℕ
scan_explanation s = or_refused (unfit_line s) (reply s.made)

-- what a run came to, with the memory and the output that it left
abbrev pub ended_by : Ending → List ℕ → List ℕ → DeviceReport
ended_by e memory output =
    record {
      report = record { number = 0; place = 0; steps = e.steps; reason = 0; machine = e.machine; memory = memory };
      devices = e.devices;
      exchange = record { read = e.read; printed = e.printed; output = output };
    }

-- PC in an answer of the emulator
abbrev pub pc_in : Machine → Result emulator.Ended Refusal → ℕ
pc_in m (Ok end) = end.machine.pc
pc_in m (Err why) = m.pc

-- how many rows an outcome of the evaluator lists: "A refusal reports .. 0 rows"
abbrev pub listed_in : Outcome → ℕ
listed_in (Ok end) = end.listed
listed_in (Err why) = 0

-- what holds of PC and memory before a step and of memory after it: the address is one of memory, and the lines of the changed words are few
pub record LastStep (pc : ℕ) (before after : List ℕ) : Type 0 where
  pub inside : pc < length before
  pub whole : length after ≡ length before
  pub few : length (change_lines 0 before after) ≤ change_lines_bytes
