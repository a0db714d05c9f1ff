-- Demand 3, proved: from every start, emulator and evaluator run and end alike, without devices and with them.
-- Assumes nothing.
use mathlib.Core.Path.{◌≡◌, refl, sym, ap, ap₂, ◌∙◌, subst}
use mathlib.Core.Bool.{Bool}
use mathlib.Core.List.{List, ◌++◌}
use Prim.Native.Nat.{ℕ}
use lib.ListN.{length, drop}
use Rattle.word.proofs.Choice.{case_true}
use Rattle.state.specs.Refusals.{reason_of, reason_with, reason_number}
use Rattle.state.specs.Checks.{check_state}
use Rattle.state.specs.declared.Refusal.{Refusal}
use Rattle.state.specs.Refusals.{Verdict}
use Rattle.std.specs.Prelude.{Ok, Err}
use Rattle.devices.specs.declared.Devices.{Devices}
use Rattle.devices.specs.Devices.{device_widths, device_values}
use Rattle.devices.specs.Session.{Session, untouched}
use Rattle.devices.proofs.Sessions.{Paired, same_place, same_exchange}
use Rattle.machine_state.specs.declared.Machine.{Machine}
use Rattle.machine_state.specs.State.{State, start, registers}
use Rattle.machine_state.specs.Registers.{widths, values}
use Rattle.machine_console.specs.Console.{Console, console}
use Rattle.runs.specs.Run.{Ended}
use Rattle.runs.proofs.Alike.{Alike}
use Rattle.machine_run.specs.Run as steps
use Rattle.emulator.specs.Emulate as emulator
use Rattle.emulator.specs.Emulate.{emulate, emulate_devices}
use Rattle.text_description.specs.Description as text
use Rattle.rows_value.specs.Value as rows
use Rattle.rows_cycles.specs.Cycle.{Cycle}
use Rattle.rows_cycles.specs.Run.{at_entry, running}
use Rattle.rows_cycles.specs.Run as cycles
use Rattle.rows_cycles.specs.Devices.{has_devices}
use Rattle.evaluator.specs.Evaluate as evaluator
use Rattle.evaluator.specs.Evaluate.{evaluate, evaluate_of, evaluate_devices, evaluate_devices_of, run_of, without, check}
use Rattle.shipped_rows.specs.Variant.{Variant, plain, devices, values_of}
use Rattle.shipped_rows.specs.Shipped.{shipped}
use Rattle.shipped.specs.Claim.{machine_part, Start, emulation, evaluation, Same, by_steps, last_cycle, by_cycles, Claim}
use Rattle.shipped_rows.proofs.Accepted.{shipped_read}
use Rattle.shipped_rows.proofs.Runs.{Beside, same_run, runs_alike, has_devices_lem, sessions_alike}
use Rattle.shipped_rows.proofs.Places.{work_values}
use Rattle.shipped.proofs.Starts.{machine_first, work_of, start_in_places, start_sound, work_fits, emulator_passes, evaluator_passes}

-- an answer by a check that found nothing
passed : {A : Type 0} (v : Verdict) (ran : A) (refused : Refusal → A) → v ≡ Ok tt → elim v [ Ok fit ↦ ran | Err why ↦ refused why ] ≡ ran
passed {A} v ran refused e = ap {B = A} (λ (u : Verdict). elim u [ Ok fit ↦ ran | Err why ↦ refused why ]) e

-- ---- neither refuses

emulated : (v : Variant) {m : Machine} {c : Devices} {registers memory : List ℕ} {budget : ℕ} {list : List ℕ} (input output : List ℕ)
    → Start v m c registers memory budget list → emulation v m c memory budget input output ≡ by_steps v m c memory budget input output
unfolding emulate emulate_devices
emulated plain {m} {c} {registers} {memory} {budget} input output s =
    ap (λ (r : emulator.Report). record { report = r; devices = c; exchange = untouched output })
    (passed (check_state widths (values m) memory budget) (emulator.finished (steps.run budget (start m memory))) (λ why. emulator.refused why m memory) (emulator_passes s))
emulated devices {m} {c} {registers} {memory} {budget} input output s =
    passed (check_state (widths ++ device_widths) (values m ++ device_values c) memory budget) (by_steps devices m c memory budget input output) (λ why. emulator.refused_devices why m c memory output) (emulator_passes s)

evaluated : (v : Variant) {m : Machine} {c : Devices} {registers memory : List ℕ} {budget : ℕ} {list : List ℕ} (input output : List ℕ)
    → Start v m c registers memory budget list
    → evaluation v registers memory budget list input output ≡ by_cycles v (record { registers = registers; memory = memory }) budget list input output
unfolding evaluate evaluate_of evaluate_devices evaluate_devices_of
evaluated plain {m} {c} {registers} {memory} {budget} {list} input output s =
    ap (λ (r : evaluator.Report). without r output)
    (ap (λ (a : text.Acceptance). evaluate_of a registers memory budget list) (shipped_read plain)
    ∙ passed (check (shipped plain) registers memory budget list) (by_cycles plain (record { registers = registers; memory = memory }) budget list input output).report
    (λ why. evaluator.outcome_of (evaluator.unfit why) registers memory list) (evaluator_passes s))
evaluated devices {m} {c} {registers} {memory} {budget} {list} input output s =
    let from : rows.State = record { registers = registers; memory = memory } in
    ap (λ (a : text.Acceptance). evaluate_devices_of a registers memory budget list input output) (shipped_read devices)
    ∙ passed (check (shipped devices) registers memory budget list) (run_of (shipped devices) from budget list input output)
    (λ why. without (evaluator.outcome_of (evaluator.unfit why) registers memory list) output) (evaluator_passes s)
    ∙ case_true (has_devices (shipped devices)) (by_cycles devices from budget list input output)
    (without (evaluator.finished (running (shipped devices)) (cycles.run (shipped devices) budget from) list) output) has_devices_lem

-- ---- and the two runs end alike

begins : {v : Variant} {m : Machine} {c : Devices} {registers memory : List ℕ} {budget : ℕ} {list : List ℕ} → Start v m c registers memory budget list
    → Beside v (console (start m memory) c) (at_entry (record { registers = registers; memory = memory }))
begins {v} {m} {c} {registers} s = record { work = work_of v registers; sound = start_sound s; fits = work_fits s; is = start_in_places s }

-- machine registers and devices are the same
same_machine : (v : Variant) (x : Console) (t : Cycle) → Beside v x t → machine_part v t.state.registers ≡ values_of v (registers x.state) x.devices
same_machine v x t b =
    ap (λ (s : rows.State). machine_part v s.registers) b.is ∙ machine_first v (registers x.state) x.devices (work_values b.work)

-- the reports of two runs that end alike, without devices and with them
same_answers : (c : Devices) {a : Ended State} {b : Ended Cycle} (list output : List ℕ) → Alike (λ (o : State). Beside plain (console o c)) a b
    → Same plain (record { report = emulator.finished a; devices = c; exchange = untouched output }) (without (evaluator.finished (running (shipped plain)) b list) output)
same_answers c {a} {b} list output e =
    let x : Console = console a.left c in
    record {
      memory = ap (λ (s : rows.State). s.memory) e.related.is;
      machine = same_machine plain x b.left e.related;
      reason = ap (λ (n : ℕ). reason_number (reason_of n)) (same_run plain x b.left e.related);
      steps = e.steps;
      exchange = refl;
    }

same_sessions : {a : Ended (Session Console)} {b : Ended (Session Cycle)} (list input output : List ℕ) → Alike (Paired (Beside devices)) a b
    → Same devices (emulator.finished_devices input output a) (evaluator.finished_devices (running (shipped devices)) b list input output)
same_sessions {a} {b} list input output e =
    let beside = e.related.engine in
    record {
      memory = ap (λ (s : rows.State). s.memory) beside.is;
      machine = same_machine devices a.left.engine b.left.engine beside;
      reason =
          ap₂ (λ (n : ℕ) (place : Bool). reason_number (reason_with n place)) (same_run devices a.left.engine b.left.engine beside)
          (same_place e.related (length output));
      steps = e.steps;
      exchange = same_exchange e.related input output;
    }

ends_alike : (v : Variant) {m : Machine} {c : Devices} {registers memory : List ℕ} {budget : ℕ} {list : List ℕ} (input output : List ℕ)
    → Start v m c registers memory budget list
    → Same v (by_steps v m c memory budget input output) (by_cycles v (record { registers = registers; memory = memory }) budget list input output)
ends_alike plain {m} {c} {registers} {memory} {budget} {list} input output s =
    same_answers c list output (runs_alike c budget (start m memory) (record { registers = registers; memory = memory }) (begins s))
ends_alike devices {m} {c} {registers} {memory} {budget} {list} input output s =
    same_sessions list input output
    (sessions_alike (length output) budget (console (start m memory) c) (record { registers = registers; memory = memory }) input (begins s))

-- the rows that acted
listed : (v : Variant) (s : rows.State) (budget : ℕ) (list input output : List ℕ) → let acted : List ℕ = (last_cycle v s budget input output).acted in
    (by_cycles v s budget list input output).report.list ≡ acted ++ drop (length acted) list
listed plain s budget list input output = refl
listed devices s budget list input output = refl

-- every variant, every acceptable memory, all fitting machine and working registers, every budget from 0 to 1,000,000, every row list of 128 places or more, every input
-- and every output
pub runs_agree : (v : Variant) (m : Machine) (c : Devices) (registers memory : List ℕ) (budget : ℕ) (list input output : List ℕ)
    → Start v m c registers memory budget list → Claim v m c registers memory budget list input output
runs_agree v m c registers memory budget list input output s =
    let from : rows.State = record { registers = registers; memory = memory } in
    let ran = evaluated v input output s in
    record {
      read = shipped_read v;
      emulated = emulated v input output s;
      evaluated = ran;
      same =
          subst (λ (a : emulator.DeviceReport). Same v a (evaluation v registers memory budget list input output)) (sym (emulated v input output s))
          (subst (λ (b : evaluator.DeviceReport). Same v (by_steps v m c memory budget input output) b) (sym ran) (ends_alike v input output s));
      rows = ap (λ (b : evaluator.DeviceReport). b.report.list) ran ∙ listed v from budget list input output;
    }
