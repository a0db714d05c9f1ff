-- The evaluator's answer for every text, memory, register set, budget and row list: refusals 1 to 8, then 11 to 15, then the run.
-- Assumes nothing.
use Rattle.std.specs.Prelude.{true, false, List, map, ◌++◌, ℕ, length, drop, Ok, Err}
use Rattle.std.specs.declared.result.Result.{Result}
use Rattle.state.specs.Refusals.{place_of, reason_of, reason_with, reason_number, Verdict, or_else}
use Rattle.state.specs.Refusals as state
use Rattle.state.specs.Checks.{check_state, check_row_list}
use Rattle.state.specs.declared.Reason.{Reason}
use Rattle.state.specs.declared.Refusal as declared
use Rattle.devices.specs.Session.{Session, place_left, Exchange, exchanged, untouched}
use Rattle.characters.specs.Named.{Named}
use Rattle.text_declaration.specs.Rows.{Description}
use Rattle.text_declaration.specs.Faults.{number_of}
use Rattle.text_declaration.specs.declared.faults.Fault.{Fault}
use Rattle.text_description.specs.Description as text
use Rattle.text_description.specs.Description.{accepted, turned_down, read_text}
use Rattle.evaluator.specs.declared.Answer.{Answer}
use Rattle.evaluator.specs.declared.DeviceAnswer.{DeviceAnswer}
use Rattle.evaluator.specs.declared.Ended as answer
use Rattle.evaluator.specs.declared.Refusal.{Refusal}
use Rattle.evaluator.specs.declared.Refusal.TheVariants.{Text, State as Unfit}
use Rattle.runs.specs.Run.{Ended}
use Rattle.rows_value.specs.Value.{State}
use Rattle.rows_cycles.specs.Cycle.{Cycle}
use Rattle.rows_cycles.specs.Run.{running, run}
use Rattle.rows_cycles.specs.Devices.{has_devices, run_devices}

-- everything that a caller finds after the call, in document 01's numbers
pub record Report : Type 0 where
  -- 0, or the refusal's number
  pub number : ℕ
  -- the line of a refused text, the lowest offending place of a refused state; 0 after a run
  pub place : ℕ
  -- "A refusal reports 0 steps and 0 rows"
  pub steps : ℕ
  -- 1 halted, 2 spent, 3 paper, 0 after a refusal
  pub reason : ℕ
  pub listed : ℕ
  pub registers : List ℕ
  pub memory : List ℕ
  pub list : List ℕ

-- "memory, registers and row list stay as they came"
abbrev pub refused : ℕ → ℕ → List ℕ → List ℕ → List ℕ → Report
refused number place registers memory list =
    record { number = number; place = place; steps = 0; reason = 0; listed = 0; registers = registers; memory = memory; list = list }

-- what came of a call: a run, a text that is turned down with its line, or a state that is
abbrev pub Outcome : Type 0
Outcome = Result answer.Ended Refusal

abbrev pub ran : Reason → ℕ → ℕ → Outcome
ran why steps listed = Ok (record { reason = why; steps = steps; listed = listed })

abbrev pub unread : Fault → ℕ → Outcome
unread f n = Err (Text (record { fault = f; line = n }))

abbrev pub unfit : declared.Refusal → Outcome
unfit why = Err (Unfit why)

-- the numbers and values of each case of the evaluator's answer, with what it leaves
abbrev pub outcome_of : Outcome → List ℕ → List ℕ → List ℕ → Report
outcome_of (Ok end) registers memory list =
    record {
      number = 0;
      place = 0;
      steps = end.steps;
      reason = reason_number end.reason;
      listed = end.listed;
      registers = registers;
      memory = memory;
      list = list;
    }
outcome_of (Err (Text why)) registers memory list = refused (number_of why.fault) why.line registers memory list
outcome_of (Err (Unfit why)) registers memory list = refused (state.number_of why) (place_of why) registers memory list

-- what a run comes to that ended after so many steps with a last cycle: "The evaluator lists the rows that acted in its last cycle, rising; later places stay"
abbrev pub ended : Reason → ℕ → Cycle → List ℕ → Report
ended why steps last list =
    outcome_of (ran why steps (length last.acted)) last.state.registers last.state.memory
    (last.acted ++ drop (length last.acted) list)

-- by what RUN is in a state
abbrev pub finished : (State → ℕ) → Ended Cycle → List ℕ → Report
finished running r list = ended (reason_of (running r.left.state)) r.steps r.left list

-- the widths of a description's registers, in their order
abbrev pub widths_of : Description → List ℕ
widths_of d = map (λ (e : Named). e.number) d.registers

-- "in this order": 11 to 14, then 15
abbrev pub check : Description → List ℕ → List ℕ → ℕ → List ℕ → Verdict
check d registers memory budget list = or_else (check_state (widths_of d) registers memory budget) (check_row_list (length list))

-- "Tried after the text"
unfoldable pub evaluate_of : text.Acceptance → List ℕ → List ℕ → ℕ → List ℕ → Report
evaluate_of (turned_down f n) registers memory budget list = outcome_of (unread f n) registers memory list
evaluate_of (accepted d) registers memory budget list =
    elim (check d registers memory budget list) [
      | Ok fit ↦ finished (running d) (run d budget (record { registers = registers; memory = memory })) list
      | Err why ↦ outcome_of (unfit why) registers memory list
    ]

unfoldable pub evaluate : List ℕ → List ℕ → List ℕ → ℕ → List ℕ → Report
evaluate text registers memory budget list = evaluate_of (read_text text) registers memory budget list

-- the answer, with the memory and the row list that are left
abbrev pub report : Answer → List ℕ → List ℕ → Report
report r memory list = outcome_of r.outcome r.registers.values memory list

-- ---- with devices: document 02, Two

-- the same, and what became of the input and the output
pub record DeviceReport : Type 0 where
  pub report : Report
  pub exchange : Exchange

-- the answer, with the memory, the row list and the output that are left
abbrev pub device_report : DeviceAnswer → List ℕ → List ℕ → List ℕ → DeviceReport
device_report r memory list output =
    record { report = report r.answer memory list; exchange = record { read = r.read; printed = r.printed; output = output } }

-- nothing read and nothing printed: after a refusal, and where there are no devices
abbrev pub without : Report → List ℕ → DeviceReport
without r output = record { report = r; exchange = untouched output }

-- what a run comes to
abbrev pub finished_devices : (State → ℕ) → Ended (Session Cycle) → List ℕ → List ℕ → List ℕ → DeviceReport
finished_devices running r list input output =
    let last : Cycle = r.left.engine in
    record {
      report = ended (reason_with (running last.state) (place_left (length output) r.left)) r.steps last list;
      exchange = exchanged input output r.left;
    }

-- "a description lacking one in name or width runs without devices as before"
abbrev pub run_of : Description → State → ℕ → List ℕ → List ℕ → List ℕ → DeviceReport
run_of d s budget list input output =
    elim (has_devices d) [
      | true ↦ finished_devices (running d) (run_devices d (length output) budget s input) list input output
      | false ↦ without (finished (running d) (run d budget s) list) output
    ]

unfoldable pub evaluate_devices_of : text.Acceptance → List ℕ → List ℕ → ℕ → List ℕ → List ℕ → List ℕ → DeviceReport
evaluate_devices_of (turned_down f n) registers memory budget list input output = without (outcome_of (unread f n) registers memory list) output
evaluate_devices_of (accepted d) registers memory budget list input output =
    elim (check d registers memory budget list) [
      | Ok fit ↦ run_of d (record { registers = registers; memory = memory }) budget list input output
      | Err why ↦ without (outcome_of (unfit why) registers memory list) output
    ]

unfoldable pub evaluate_devices : List ℕ → List ℕ → List ℕ → ℕ → List ℕ → List ℕ → List ℕ → DeviceReport
evaluate_devices text registers memory budget list input output = evaluate_devices_of (read_text text) registers memory budget list input output
