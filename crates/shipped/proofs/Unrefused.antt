-- The claim wherever the evaluator does not refuse: its checks find nothing only at a start that meets document 01's conditions. So it is said of the two
-- programs' own answers.
-- Assumes nothing.
use mathlib.Core.Path.{◌≡◌, refl, sym, ap, ap₂, ◌∙◌, subst}
use mathlib.Core.List.{List}
use Prim.Native.Nat.{ℕ}
use lib.ListN.{length}
use Rattle.state.specs.Checks.{check_state, check_row_list}
use Rattle.state.specs.declared.Refusal.{Refusal}
use Rattle.state.specs.Refusals.{Verdict}
use Rattle.std.specs.Prelude.{Ok, Err}
use Rattle.state.proofs.Accepted.{row_list_long, both_fit, state_sound}
use Rattle.state.proofs.Numbers.{numbered}
use Rattle.devices.specs.declared.Devices.{Devices}
use Rattle.machine_state.specs.declared.Machine.{Machine}
use Rattle.emulator.specs.Emulate as emulator
use Rattle.text_limits.specs.Limits.{most_registers}
use Rattle.text_description.specs.Description as text
use Rattle.evaluator.specs.Evaluate.{Report, DeviceReport, unfit, outcome_of, widths_of, check, evaluate_of, evaluate, without, run_of, evaluate_devices_of, evaluate_devices}
use Rattle.shipped_rows.specs.Variant.{Variant, plain, devices, values_of}
use Rattle.shipped_rows.specs.Shipped.{shipped}
use Rattle.shipped.specs.Claim.{machine_part, Start, emulation, evaluation, Same, by_cycles, Claim, Together}
use Rattle.shipped_rows.proofs.Accepted.{shipped_read}
use Rattle.shipped.proofs.Agree.{runs_agree}

-- a check by which nothing was refused found nothing
passes : {A : Type 0} (number : A → ℕ) (v : Verdict) (ran : A) (refused : Refusal → A) → ((why : Refusal) → number (refused why) ≡ 0 → ⊥)
    → number (elim v [ Ok fit ↦ ran | Err why ↦ refused why ]) ≡ 0 → v ≡ Ok tt
passes number (Ok fit) ran refused some e = refl
passes number (Err why) ran refused some e = absurd (some why e)

unrefused : (v : Variant) (registers memory : List ℕ) (budget : ℕ) (list input output : List ℕ)
    → (evaluation v registers memory budget list input output).report.number ≡ 0 → check (shipped v) registers memory budget list ≡ Ok tt
unfolding evaluate evaluate_of evaluate_devices evaluate_devices_of
unrefused plain registers memory budget list input output e =
    passes (λ (r : Report). r.number) (check (shipped plain) registers memory budget list)
    (by_cycles plain (record { registers = registers; memory = memory }) budget list input output).report
    (λ why. outcome_of (unfit why) registers memory list) numbered
    (ap (λ (a : text.Acceptance). (evaluate_of a registers memory budget list).number) (sym (shipped_read plain)) ∙ e)
unrefused devices registers memory budget list input output e =
    passes (λ (r : DeviceReport). r.report.number) (check (shipped devices) registers memory budget list)
    (run_of (shipped devices) (record { registers = registers; memory = memory }) budget list input output)
    (λ why. without (outcome_of (unfit why) registers memory list) output) numbered
    (ap (λ (a : text.Acceptance). (evaluate_devices_of a registers memory budget list input output).report.number) (sym (shipped_read devices)) ∙ e)

module _ (v : Variant) (m : Machine) (c : Devices) (registers memory : List ℕ) (budget : ℕ) (list input output : List ℕ) where
  -- what passes the evaluator's checks is a start
  start_of : length registers ≡ most_registers → machine_part v registers ≡ values_of v m c → check (shipped v) registers memory budget list ≡ Ok tt
      → Start v m c registers memory budget list
  start_of places machine e =
      let outer = both_fit (check_state (widths_of (shipped v)) registers memory budget) (check_row_list (length list)) e in
      let sound = state_sound (widths_of (shipped v)) registers memory budget outer.0 in
      record {
        places = places;
        machine = machine;
        fitting = sound.1;
        acceptable = sound.0;
        within = sound.2;
        roomy = row_list_long (length list) outer.1;
      }

  -- what the emulator refuses, the evaluator refuses too: so this is wherever neither refuses
  pub unrefused_agree : length registers ≡ most_registers → machine_part v registers ≡ values_of v m c
      → (evaluation v registers memory budget list input output).report.number ≡ 0 → Claim v m c registers memory budget list input output
  unrefused_agree places machine e =
      runs_agree v m c registers memory budget list input output (start_of places machine (unrefused v registers memory budget list input output e))

  -- the same of two answers that are what the definitions give, as the entries' contracts say of theirs
  answers_agree : length registers ≡ most_registers → machine_part v registers ≡ values_of v m c
      → (a : emulator.DeviceReport) (b : DeviceReport) → a ≡ emulation v m c memory budget input output → b ≡ evaluation v registers memory budget list input output
      → b.report.number ≡ 0 → Same v a b
  answers_agree places machine a b p q e =
      subst (λ (x : emulator.DeviceReport). Same v x b) (sym p)
      (subst (λ (y : DeviceReport). Same v (emulation v m c memory budget input output) y) (sym q)
      (unrefused_agree places machine (ap (λ (r : DeviceReport). r.report.number) (sym q) ∙ e)).same)

-- and of answers that two memories and two outputs gave, wherever these hold the same
pub together : (v : Variant) (m : Machine) (c : Devices) (registers first second : List ℕ) (budget : ℕ) (list input left right : List ℕ)
    (a : emulator.DeviceReport) (b : DeviceReport) → length registers ≡ most_registers
    → a ≡ emulation v m c first budget input left → b ≡ evaluation v registers second budget list input right
    → Together v m c registers first second budget list input left right a b
together v m c registers first second budget list input left right a b places p q =
    record {
      emulated = p;
      evaluated = q;
      agree = λ memory output machine none.
          answers_agree v m c registers first budget list input left places machine a b p
          (q ∙ ap₂ (λ (l o : List ℕ). evaluation v registers l budget list input o) memory output) none;
    }
