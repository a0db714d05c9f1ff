-- A round, as the code makes it between the start of a step and the print.
-- Assumes nothing.
use mathlib.Core.Path.{◌≡◌, refl, sym, ap, ◌∙◌, subst}
use mathlib.Core.Bool.{Bool, true, false}
use Prim.Native.Nat.{ℕ, ◌+◌, ◌-◌, ◌^◌, ◌≤◌, ◌<◌}
use native.Mathlib.Omega.{arith}
use borrow.Author.Tests.{le-leb, lt-leb}
use Rattle.word.specs.Choice.{pick}
use Rattle.word.proofs.Choice.{case_true, case_false, pick_either}
use Rattle.runs.specs.Run.{Ended, ended}
use Rattle.devices.specs.declared.Devices.{Devices}
use Rattle.devices.specs.Devices.{DevicesFit}
use Rattle.devices.proofs.Starts.{fit_flags}
use Rattle.machine_state.specs.State.{State, lac_bits, Good, word, with_request}
use Rattle.machine_state.proofs.Keeps.{request_good}
use Rattle.machine_run.specs.Step.{makes_test}
use Rattle.machine_run.specs.Stretch.{is_paused, unpaused, Ready, stretch_from}
use Rattle.machine_run.proofs.Ready.{paused_good, stretch_ready}
use Rattle.machine_console.specs.Console.{Console, console, line, device_step}
use Rattle.machine_console.specs.Rounds.{refreshed, limit, resumed, taken, worked}
use Rattle.machine_console.proofs.Keeps.{line_lt}

-- the word i at PC, whether it makes a test (b), the request and the limit that are chosen by it
module _ (s : State) (c : Devices) (done budget i : ℕ) (b : Bool) (flags request end : ℕ) (fetched : i ≡ word s.pc s) (told : b ≡ makes_test i)
    (raised : flags ≡ line c) (refreshes : request ≡ pick b flags s.request) (ends : end ≡ pick b budget (done + 1)) where
  refreshing : request ≡ pick b (line c) s.request
  refreshing = refreshes ∙ ap (λ (r : ℕ). pick b r s.request) raised

  pub work_begins : Good s → DevicesFit c → done < budget → Good (with_request request s) × (done ≤ end)
  work_begins g f h = (
    request_good (subst (λ (r : ℕ). r < 2) (sym refreshing) (pick_either (λ (r : ℕ). r < 2) b (line_lt (fit_flags f)) g.request)) g,
    subst (λ (n : ℕ). done ≤ n) (sym ends) (pick_either (λ (n : ℕ). done ≤ n) b (omega (arith, h)) (omega arith)),
  )

  known : b ≡ makes_test (word s.pc s)
  known = told ∙ ap makes_test fetched

  length_of : (t : Bool) → pick t budget (done + 1) - done ≡ pick t (budget - done) 1
  length_of true = refl
  length_of false = omega arith

  state_of : (t : Bool) → with_request (pick t (line c) s.request) s ≡ pick t (with_request (line c) s) s
  state_of true = refl
  state_of false = refl

  stretch_of : stretch_from true (end - done) done (with_request request s)
      ≡ stretch_from true (limit (budget - done) (console s c)) done (refreshed (console s c))
  unfolding limit refreshed
  stretch_of =
      ap (λ (n : ℕ). stretch_from true n done (with_request request s))
      (ap (λ (n : ℕ). n - done) ends ∙ length_of b ∙ ap (λ (t : Bool). pick t (budget - done) 1) known)
      ∙ ap (stretch_from true (limit (budget - done) (console s c)) done)
      (ap (λ (r : ℕ). with_request r s) refreshing ∙ state_of b ∙ ap (λ (t : Bool). pick t (with_request (line c) s) s) known)

  module _ (n : ℕ) (y : State) (stretched : ended n y ≡ stretch_from true (end - done) done (with_request request s)) where
    went : ended n (resumed c y) ≡ worked (budget - done) done (console s c)
    unfolding worked
    went = ap (taken c) (stretched ∙ stretch_of)

    pub work_paused : (z : Console) → 2 ^ lac_bits ≤ y.lac → z ≡ device_step (console (unpaused y) c) → ended n z ≡ worked (budget - done) done (console s c)
    unfolding resumed
    work_paused z e d =
        ap (ended n) (d ∙ sym (case_true (is_paused y) (device_step (console (unpaused y) c)) (console y c) (le-leb (2 ^ lac_bits) y.lac e))) ∙ went

    pub work_going : y.lac < 2 ^ lac_bits → ended n (console y c) ≡ worked (budget - done) done (console s c)
    unfolding resumed
    work_going e =
        ap (ended n) (sym (case_false (is_paused y) (device_step (console (unpaused y) c)) (console y c) (lt-leb (2 ^ lac_bits) y.lac e))) ∙ went

    pub work_resumes : Good s → DevicesFit c → done < budget → 2 ^ lac_bits ≤ y.lac → Good (unpaused y)
    work_resumes g f h e =
        paused_good (le-leb (2 ^ lac_bits) y.lac e)
        (subst (λ (t : Ended State). Ready t.left) (sym stretched) (stretch_ready true (end - done) done (with_request request s) (work_begins g f h).0))
