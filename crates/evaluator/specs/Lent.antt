-- What the code holds of both entries: where the devices' registers stand, the run over the tables with devices or without, and an answer by whether input and output
-- are lent.
-- Assumes nothing.
use Rattle.std.specs.Prelude.{Bool, true, false, cond, is_some, List, map, ℕ, length, Some, None, Ok, Err}
use Rattle.std.specs.declared.option.Option.{Option}
use Rattle.std.specs.declared.result.Result.{Result}
use Rattle.state.specs.Refusals.{reason_with}
use Rattle.runs.specs.Run.{Ended}
use Rattle.characters.specs.Named.{Named, find}
use Rattle.devices.specs.Devices.{device_registers}
use Rattle.devices.specs.Session.{Session, exchanged}
use Rattle.rows_value.specs.Value.{State}
use Rattle.rows_cycles.specs.Cycle.{Cycle}
use Rattle.rows_cycles.specs.Devices.{has_all}
use Rattle.rows_cycles.specs.Stored.{room_for, places_or, coursing}
use Rattle.rows_store.specs.declared.Registers.{Registers}
use Rattle.evaluator.specs.declared.DeviceAnswer.{DeviceAnswer}
use Rattle.evaluator.specs.declared.Refusal.{Refusal}
use Rattle.evaluator.specs.Evaluate.{DeviceReport, without, ended, evaluate, evaluate_devices}

-- the places of the devices' registers among some, if all of them are there
abbrev pub attached : List Named → Option (List ℕ)
attached rs = cond (has_all rs device_registers) (Some (map (λ (n : Named). find n.name rs) device_registers)) None

-- the run over the tables, with devices at places or without
abbrev pub lent_run : List ℕ → List ℕ → ℕ → ℕ → Option (List ℕ) → ℕ → ℕ → State → List ℕ → Ended (Session Cycle)
lent_run code table count place places room budget s input =
    coursing code table count place (is_some places) (places_or places) room budget s input

-- what a run comes to
abbrev pub finished_lent : Option (List ℕ) → (State → ℕ) → Ended (Session Cycle) → List ℕ → List ℕ → List ℕ → DeviceReport
finished_lent places running r list input output =
    let last : Cycle = r.left.engine in
    record {
      report = ended (reason_with (running last.state) (room_for (is_some places) (length output) r.left)) r.steps last list;
      exchange = exchanged input output r.left;
    }

-- an answer, or a refusal after which the registers are as they came, and nothing is read or printed
abbrev pub answered : Registers → Result DeviceAnswer Refusal → DeviceAnswer
answered registers (Ok answer) = answer
answered registers (Err why) = record { answer = record { registers = registers; outcome = Err why }; read = 0; printed = 0 }

-- where nothing is lent nothing is read or printed
abbrev pub evaluate_lent : Bool → List ℕ → List ℕ → List ℕ → ℕ → List ℕ → List ℕ → List ℕ → DeviceReport
evaluate_lent true text registers memory budget list input output = evaluate_devices text registers memory budget list input output
evaluate_lent false text registers memory budget list input output = without (evaluate text registers memory budget list) output
