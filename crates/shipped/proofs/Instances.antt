-- Places that one might take for special cases are instances of the claim: a budget of 0, RUN 0 at entry, pending interrupts. In the first two
-- nothing is run.
-- Assumes nothing.
use mathlib.Core.Path.{◌≡◌, refl, ap, ap₂, ◌∙◌}
use mathlib.Core.Bool.{Bool, ◌&&◌}
use mathlib.Core.List.{List}
use Prim.Native.Nat.{ℕ}
use lib.ListN.{length}
use Rattle.word.specs.Choice.{on}
use Rattle.state.specs.Refusals.{reason_of, reason_with}
use Rattle.state.specs.declared.Reason.TheVariants.{Halted}
use Rattle.runs.specs.Run.{Ended, run_from}
use Rattle.runs.proofs.Runs.{stopped_at_entry}
use Rattle.devices.specs.declared.Devices.{Devices}
use Rattle.devices.specs.Session.{Session, turn, place_left, opened, Exchange, untouched}
use Rattle.devices.specs.Session as session
use Rattle.devices.proofs.Sessions.{nothing_exchanged}
use Rattle.machine_state.specs.declared.Machine.{Machine}
use Rattle.machine_state.specs.State.{State, start}
use Rattle.machine_run.specs.Step.{step}
use Rattle.machine_run.specs.Run as steps
use Rattle.machine_console.specs.Console as consoles
use Rattle.machine_console.specs.Console.{console}
use Rattle.emulator.specs.Emulate as emulator
use Rattle.rows_value.specs.Value as rows
use Rattle.rows_cycles.specs.Cycle.{Cycle, cycle}
use Rattle.rows_cycles.specs.Run.{goes_on, from_last, at_entry, running}
use Rattle.rows_cycles.specs.Devices.{device_places, attached_at}
use Rattle.evaluator.specs.Evaluate as evaluator
use Rattle.evaluator.specs.Evaluate.{outcome_of, without}
use Rattle.shipped_rows.specs.Variant.{Variant, plain, devices}
use Rattle.shipped_rows.specs.Shipped.{shipped}
use Rattle.shipped.specs.Claim.{Start, emulation, evaluation, by_steps, by_cycles, Claim}
use Rattle.shipped_rows.proofs.Runs.{running_in_places}
use Rattle.shipped.proofs.Starts.{work_of, start_in_places}
use Rattle.shipped.proofs.Agree.{runs_agree}

-- ---- budget 0: 0 steps

steps_0 : (v : Variant) (m : Machine) (c : Devices) (memory input output : List ℕ) → (by_steps v m c memory 0 input output).report.steps ≡ 0
unfolding run_from
steps_0 plain m c memory input output = refl
steps_0 devices m c memory input output = refl

cycles_0 : (v : Variant) (s : rows.State) (list input output : List ℕ) → (by_cycles v s 0 list input output).report.steps ≡ 0
unfolding run_from
cycles_0 plain s list input output = refl
cycles_0 devices s list input output = refl

-- ---- RUN 0 at entry: halted, and nothing is touched

-- by the machine's steps
steps_halted : (v : Variant) (m : Machine) (c : Devices) (memory : List ℕ) (budget : ℕ) (input output : List ℕ) → m.run ≡ 0
    → by_steps v m c memory budget input output ≡ record { report = emulator.ran m Halted 0 memory; devices = c; exchange = untouched output }
steps_halted plain m c memory budget input output e =
    ap (λ (r : Ended State). record { report = emulator.finished r; devices = c; exchange = untouched output })
    (stopped_at_entry steps.running step budget (start m memory) (ap on e))
    ∙ ap (λ (n : ℕ). record { report = emulator.ran m (reason_of n) 0 memory; devices = c; exchange = untouched output }) e
steps_halted devices m c memory budget input output e =
    let x = opened (console (start m memory) c) input in
    let place : Bool = place_left (length output) x in
    ap (emulator.finished_devices input output)
    (stopped_at_entry (session.goes_on consoles.running (length output)) consoles.turn budget x (ap (λ (n : ℕ). on n && place) e))
    ∙ ap₂ (λ (n : ℕ) (t : Exchange). record { report = emulator.ran m (reason_with n place) 0 memory; devices = c; exchange = t }) e
    (nothing_exchanged (console (start m memory) c) input output)

-- by the rows' cycles
cycles_halted : (v : Variant) (s : rows.State) (budget : ℕ) (list input output : List ℕ) → running (shipped v) s ≡ 0
    → by_cycles v s budget list input output ≡ without (outcome_of (evaluator.ran Halted 0 0) s.registers s.memory list) output
cycles_halted plain s budget list input output e =
    ap (λ (r : Ended Cycle). without (evaluator.finished (running (shipped plain)) r list) output)
    (stopped_at_entry (goes_on (running (shipped plain))) (from_last (cycle (shipped plain).rows)) budget (at_entry s) (ap on e))
    ∙ ap (λ (n : ℕ). without (outcome_of (evaluator.ran (reason_of n) 0 0) s.registers s.memory list) output) e
cycles_halted devices s budget list input output e =
    let x = opened (at_entry s) input in
    let place : Bool = place_left (length output) x in
    ap (λ (r : Ended (Session Cycle)). evaluator.finished_devices (running (shipped devices)) r list input output)
    (stopped_at_entry (session.goes_on (goes_on (running (shipped devices))) (length output))
    (turn (attached_at (device_places (shipped devices))) (from_last (cycle (shipped devices).rows))) budget x (ap (λ (n : ℕ). on n && place) e))
    ∙ ap₂ (λ (n : ℕ) (t : Exchange). record { report = outcome_of (evaluator.ran (reason_with n place) 0 0) s.registers s.memory list; exchange = t }) e
    (nothing_exchanged (at_entry s) input output)

-- RUN is 0 in the evaluator's place of it, too
run_is_0 : {v : Variant} {m : Machine} {c : Devices} {registers memory : List ℕ} {budget : ℕ} {list : List ℕ} → Start v m c registers memory budget list → m.run ≡ 0
    → running (shipped v) (record { registers = registers; memory = memory }) ≡ 0
run_is_0 {v} {m} {c} {registers} {memory} s e =
    ap (running (shipped v)) (start_in_places s) ∙ running_in_places v (console (start m memory) c) (work_of v registers) ∙ e

-- ---- the claim there

module _ (v : Variant) (m : Machine) (c : Devices) (registers memory list input output : List ℕ) where
  pub budget_0 : Start v m c registers memory 0 list
      → Claim v m c registers memory 0 list input output
      × ((emulation v m c memory 0 input output).report.steps ≡ 0)
      × ((evaluation v registers memory 0 list input output).report.steps ≡ 0)
  budget_0 s =
      let claim = runs_agree v m c registers memory 0 list input output s in (
        claim,
        ap (λ (a : emulator.DeviceReport). a.report.steps) claim.emulated ∙ steps_0 v m c memory input output,
        ap (λ (b : evaluator.DeviceReport). b.report.steps) claim.evaluated ∙ cycles_0 v (record { registers = registers; memory = memory }) list input output,
      )

  -- "RUN 0 at entry: halted, 0 steps, even with budget 0", and "with 0 steps the list has 0 entries"
  pub run_0 : (budget : ℕ) → m.run ≡ 0 → Start v m c registers memory budget list
      → Claim v m c registers memory budget list input output
      × (emulation v m c memory budget input output ≡ record { report = emulator.ran m Halted 0 memory; devices = c; exchange = untouched output })
      × (evaluation v registers memory budget list input output ≡ without (outcome_of (evaluator.ran Halted 0 0) registers memory list) output)
  run_0 budget e s =
      let claim = runs_agree v m c registers memory budget list input output s in (
        claim,
        claim.emulated ∙ steps_halted v m c memory budget input output e,
        claim.evaluated ∙ cycles_halted v (record { registers = registers; memory = memory }) budget list input output (run_is_0 s e),
      )

  -- INTERRUPT.ENABLE and INTERRUPT.REQUEST both 1 at entry
  pub interrupts_pending : (budget : ℕ) → m.enable ≡ 1 → m.request ≡ 1 → Start v m c registers memory budget list
      → Claim v m c registers memory budget list input output
  interrupts_pending budget enabled requested s = runs_agree v m c registers memory budget list input output s
