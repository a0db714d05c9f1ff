-- The laws of runs, whatever is run: the ways through the loop that makes one; what a run keeps; and that a run of a + b steps is a run of a, then of b.
-- Assumes nothing.
use mathlib.Core.Path.{◌≡◌, refl, sym, ap, ◌∙◌, subst}
use mathlib.Core.Bool.{Bool, true, false}
use Prim.Native.Nat.{ℕ, zero, suc, ◌+◌, ◌-◌, ◌≤◌, ◌<◌}
use native.Mathlib.Nat.{zero-add, add-zero, suc-add, add-suc}
use native.Mathlib.Numerals.{add-one}
use native.Mathlib.Omega.{arith}
use Rattle.laws.proofs.Tests.{by_test}
use Rattle.word.specs.Choice.{pick}
use Rattle.word.proofs.Choice.{case_true, case_false}
use Rattle.runs.specs.Run.{Ended, ended, run_from, run}

-- a run that follows `done` steps of an earlier one
abbrev pub following : {A : Type 0} → ℕ → Ended A → Ended A
following done r = ended (done + r.steps) r.left

module _ {A : Type 0} (goes_on : A → Bool) (step : A → A) where
  abbrev from : ℕ → ℕ → A → Ended A
  from budget done x = run_from goes_on step budget done x

  -- ---- the loop

  -- it does not go on: nothing more is done
  pub run_stops : (budget done : ℕ) (x : A) → goes_on x ≡ false → from budget done x ≡ ended done x
  unfolding run_from
  run_stops zero done x e = refl
  run_stops (suc budget) done x e = case_false (goes_on x) (from budget (suc done) (step x)) (ended done x) e

  -- it goes on, and a step is left
  pub run_step : (budget done : ℕ) (x : A) → goes_on x ≡ true → from (suc budget) done x ≡ from budget (suc done) (step x)
  unfolding run_from
  run_step budget done x e = case_true (goes_on x) (from budget (suc done) (step x)) (ended done x) e

  -- the same as a loop that counts up to the budget goes through it
  pub run_spent : (budget done : ℕ) (x : A) → budget ≤ done → from (budget - done) done x ≡ ended done x
  unfolding run_from
  run_spent budget done x h =
      let none : budget - done ≡ 0 = omega arith in
      ap (λ (n : ℕ). from n done x) none

  pub run_on : (budget done : ℕ) (x : A) → done < budget → goes_on x ≡ true → from (budget - done) done x ≡ from (budget - (done + 1)) (done + 1) (step x)
  run_on budget done x h e =
      let more : budget - done ≡ suc (budget - (done + 1)) = omega arith in
      ap (λ (n : ℕ). from n done x) more
      ∙ run_step (budget - (done + 1)) done x e
      ∙ ap (λ (n : ℕ). from (budget - (done + 1)) n (step x)) (sym (add-one done))

  -- the bound that a loop's one test compares with: the budget, or 0 where the run does not go on. Steps that reach it are all:
  pub run_bound : (budget done end : ℕ) (x : A) → end ≡ pick (goes_on x) budget 0 → end ≤ done → from (budget - done) done x ≡ ended done x
  run_bound budget done end x e h =
      by_test (goes_on x)
      (λ t. run_spent budget done x (let all : end ≡ budget = e ∙ ap (λ (b : Bool). pick b budget 0) t in omega (arith, all, h)))
      (λ f. run_stops (budget - done) done x f)

  -- ---- whole runs

  -- it does not go on at entry: 0 steps, at every budget
  pub stopped_at_entry : (budget : ℕ) (x : A) → goes_on x ≡ false → run goes_on step budget x ≡ ended 0 x
  stopped_at_entry budget x e = run_stops budget 0 x e

  -- what each step that is made keeps, a run keeps
  pub keeps_from : (P : A → Type 0) → ((x : A) → goes_on x ≡ true → P x → P (step x)) → (budget done : ℕ) (x : A) → P x → P (from budget done x).left
  unfolding run_from
  keeps_from P kept zero done x p = p
  keeps_from P kept (suc budget) done x p =
      by_test (goes_on x)
      (λ e. subst (λ (r : Ended A). P r.left) (sym (run_step budget done x e)) (keeps_from P kept budget (suc done) (step x) (kept x e p)))
      (λ e. subst (λ (r : Ended A). P r.left) (sym (run_stops (suc budget) done x e)) p)

  pub run_keeps : (P : A → Type 0) → ((x : A) → P x → P (step x)) → (budget : ℕ) (x : A) → P x → P (run goes_on step budget x).left
  run_keeps P kept budget x p = keeps_from P (λ y e q. kept y q) budget 0 x p

  -- counting from `done` only adds to the steps
  counted : (budget more done : ℕ) (x : A) → from budget (more + done) x ≡ following more (from budget done x)
  unfolding run_from
  counted zero more done x = refl
  counted (suc budget) more done x =
      by_test (goes_on x)
      (λ e. run_step budget (more + done) x e
      ∙ ap (λ (n : ℕ). from budget n (step x)) (sym (add-suc more done))
      ∙ counted budget more (suc done) (step x)
      ∙ ap (following more) (sym (run_step budget done x e)))
      (λ e. run_stops (suc budget) (more + done) x e ∙ ap (following more) (sym (run_stops (suc budget) done x e)))

  pub from_following : (budget done : ℕ) (x : A) → from budget done x ≡ following done (run goes_on step budget x)
  from_following budget done x = ap (λ (n : ℕ). from budget n x) (sym (add-zero done)) ∙ counted budget done 0 x

  -- a run in two parts, from any number of steps done
  split_from : (a b done : ℕ) (x : A) → from (a + b) done x ≡ from b (from a done x).steps (from a done x).left
  unfolding run_from
  split_from zero b done x = ap (λ (n : ℕ). from n done x) (zero-add b)
  split_from (suc a) b done x =
      ap (λ (n : ℕ). from n done x) (suc-add a b)
      ∙ by_test (goes_on x)
      (λ e. run_step (a + b) done x e
      ∙ split_from a b (suc done) (step x)
      ∙ ap (λ (r : Ended A). from b r.steps r.left) (sym (run_step a done x e)))
      (λ e. run_stops (suc (a + b)) done x e
      ∙ sym (run_stops b done x e)
      ∙ ap (λ (r : Ended A). from b r.steps r.left) (sym (run_stops (suc a) done x e)))

  -- "a run of a + b steps is a run of a, then of b"
  pub run_split : (a b : ℕ) (x : A)
      → run goes_on step (a + b) x ≡ following (run goes_on step a x).steps (run goes_on step b (run goes_on step a x).left)
  run_split a b x = split_from a b 0 x ∙ from_following b (from a 0 x).steps (from a 0 x).left

-- steps below the bound: the run goes on, and the bound is the budget
pub below_bound : (budget done end : ℕ) (b : Bool) → end ≡ pick b budget 0 → done < end → (done < budget) × (b ≡ true) × (end ≡ budget)
below_bound budget done end true e h = (omega (arith, e, h), refl, e)
below_bound budget done end false e h = absurd (omega (arith, e, h))
