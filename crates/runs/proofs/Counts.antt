-- The steps that a run reports: they are the steps made, at most the budget, and exactly the budget where the run would go on. And its last step.
-- Assumes nothing.
use mathlib.Core.Path.{◌≡◌, refl, sym, ap, ◌∙◌, subst}
use mathlib.Core.Bool.{Bool, true}
use Prim.Native.Nat.{ℕ, zero, suc, ◌+◌, ◌≤◌, ◌<◌, suc-le-suc}
use native.Mathlib.Nat.{zero-add, add-zero, suc-add, add-suc, zero-lt-suc}
use native.Mathlib.Omega.{arith}
use lib.Dec.{ltb}
use borrow.Author.Tests.{ltb-true, ltb-false}
use Rattle.laws.proofs.Tests.{by_test, not_so}
use Rattle.runs.specs.Run.{Ended, ended, run_from, run}
use Rattle.runs.proofs.Runs.{run_stops, run_step}

module _ {A : Type 0} (goes_on : A → Bool) (step : A → A) where
  abbrev from : ℕ → ℕ → A → Ended A
  from budget done x = run_from goes_on step budget done x

  -- what n steps make
  unfoldable pub after : ℕ → A → A
  after zero x = x
  after (suc n) x = after n (step x)

  -- the steps reported are the steps made
  after_from : (budget done : ℕ) (x : A) → (n : ℕ) × ((from budget done x).steps ≡ done + n) × ((from budget done x).left ≡ after n x)
  unfolding run_from after
  after_from zero done x = (0, sym (add-zero done), refl)
  after_from (suc budget) done x =
      let later = after_from budget (suc done) (step x) in
      by_test (goes_on x)
      (λ e. (
        suc later.0,
        ap (λ (r : Ended A). r.steps) (run_step goes_on step budget done x e) ∙ later.1 ∙ suc-add done later.0 ∙ sym (add-suc done later.0),
        ap (λ (r : Ended A). r.left) (run_step goes_on step budget done x e) ∙ later.2,
      ))
      (λ e. (
        0,
        ap (λ (r : Ended A). r.steps) (run_stops goes_on step (suc budget) done x e) ∙ sym (add-zero done),
        ap (λ (r : Ended A). r.left) (run_stops goes_on step (suc budget) done x e),
      ))

  pub steps_made : (budget : ℕ) (x : A) → (run goes_on step budget x).left ≡ after (run goes_on step budget x).steps x
  steps_made budget x =
      let found = after_from budget 0 x in
      found.2 ∙ ap (λ (n : ℕ). after n x) (sym (found.1 ∙ zero-add found.0))

  -- no more than the budget
  within_from : (budget done : ℕ) (x : A) → (from budget done x).steps ≤ done + budget
  unfolding run_from
  within_from zero done x = omega arith
  within_from (suc budget) done x =
      let later = within_from budget (suc done) (step x) in
      by_test (goes_on x)
      (λ e. subst (λ (r : Ended A). r.steps ≤ done + suc budget) (sym (run_step goes_on step budget done x e)) (omega (arith, later)))
      (λ e. subst (λ (r : Ended A). r.steps ≤ done + suc budget) (sym (run_stops goes_on step (suc budget) done x e)) (omega arith))

  pub steps_within : (budget : ℕ) (x : A) → (run goes_on step budget x).steps ≤ budget
  steps_within budget x = omega (arith, within_from budget 0 x)

  -- before each step that was made the run went on
  on_from : (budget done : ℕ) (x : A) (k : ℕ) → done + k < (from budget done x).steps → goes_on (after k x) ≡ true
  unfolding run_from after
  on_from zero done x k h = absurd (omega arith)
  on_from (suc budget) done x zero h =
      by_test (goes_on x)
      (λ e. e)
      (λ e. let none = ap (λ (r : Ended A). r.steps) (run_stops goes_on step (suc budget) done x e) in absurd (omega (arith, h, none)))
  on_from (suc budget) done x (suc k) h =
      by_test (goes_on x)
      (λ e. let same = ap (λ (r : Ended A). r.steps) (run_step goes_on step budget done x e) in on_from budget (suc done) (step x) k (omega (arith, h, same)))
      (λ e. let none = ap (λ (r : Ended A). r.steps) (run_stops goes_on step (suc budget) done x e) in absurd (omega (arith, h, none)))

  pub went_on : (budget : ℕ) (x : A) (k : ℕ) → k < (run goes_on step budget x).steps → goes_on (after k x) ≡ true
  went_on budget x k h = on_from budget 0 x k (omega (arith, h))

  -- a run that would go on has made all steps that were left
  exactly_from : (budget done : ℕ) (x : A) → goes_on (from budget done x).left ≡ true → (from budget done x).steps ≡ done + budget
  unfolding run_from
  exactly_from zero done x e = sym (add-zero done)
  exactly_from (suc budget) done x e =
      by_test (goes_on x)
      (λ t.
      let same = run_step goes_on step budget done x t in
      ap (λ (r : Ended A). r.steps) same
      ∙ exactly_from budget (suc done) (step x) (ap (λ (r : Ended A). goes_on r.left) (sym same) ∙ e)
      ∙ suc-add done budget ∙ sym (add-suc done budget))
      (λ f. not_so (goes_on x) (ap (λ (r : Ended A). goes_on r.left) (sym (run_stops goes_on step (suc budget) done x f)) ∙ e) f)

  -- "else `spent` with exactly the budget done": and it went on before each step, as it would at the end
  pub spent_exactly : (budget : ℕ) (x : A) → goes_on (run goes_on step budget x).left ≡ true
      → ((run goes_on step budget x).steps ≡ budget) × ((k : ℕ) → k ≤ budget → goes_on (after k x) ≡ true)
  spent_exactly budget x e =
      let all = exactly_from budget 0 x e ∙ zero-add budget in (
        all,
        λ k h.
            by_test (ltb k budget)
            (λ t. went_on budget x k (omega (arith, ltb-true k budget t, all)))
            (λ t.
            let end : (run goes_on step budget x).steps ≡ k = omega (arith, ltb-false k budget t, h, all) in
            ap (λ (y : A). goes_on y) (sym (steps_made budget x ∙ ap (λ (n : ℕ). after n x) end)) ∙ e),
      )

  -- and the other way round: while a run goes on every step of the budget is made
  full_from : (budget done : ℕ) (x : A) → ((k : ℕ) → k < budget → goes_on (after k x) ≡ true) → from budget done x ≡ ended (done + budget) (after budget x)
  unfolding run_from after
  full_from zero done x h = ap (λ (n : ℕ). ended n x) (sym (add-zero done))
  full_from (suc budget) done x h =
      run_step goes_on step budget done x (h 0 (zero-lt-suc budget))
      ∙ full_from budget (suc done) (step x) (λ k q. h (suc k) (suc-le-suc q))
      ∙ ap (λ (n : ℕ). ended n (after budget (step x))) (suc-add done budget ∙ sym (add-suc done budget))

  pub full_run : (budget : ℕ) (x : A) → ((k : ℕ) → k < budget → goes_on (after k x) ≡ true) → run goes_on step budget x ≡ ended budget (after budget x)
  full_run budget x h = full_from budget 0 x h ∙ ap (λ (n : ℕ). ended n (after budget x)) (zero-add budget)

  -- ---- the last step

  after_suc : (n : ℕ) (x : A) → after (suc n) x ≡ step (after n x)
  unfolding after
  after_suc zero x = refl
  after_suc (suc n) x = after_suc n (step x)

  -- what a run leaves is one step after the end of the run of one step fewer
  pub last_step : (budget n : ℕ) (x : A) → (run goes_on step budget x).steps ≡ suc n → (run goes_on step budget x).left ≡ step (run goes_on step n x).left
  last_step budget n x e =
      steps_made budget x ∙ ap (λ (k : ℕ). after k x) e ∙ after_suc n x
      ∙ ap (λ (r : Ended A). step r.left) (sym (full_run n x (λ k h. went_on budget x k (omega (arith, h, e)))))

  -- with no step made all is as it was
  pub no_step : (budget : ℕ) (x : A) → (run goes_on step budget x).steps ≡ 0 → (run goes_on step budget x).left ≡ x
  unfolding after
  no_step budget x e = steps_made budget x ∙ ap (λ (k : ℕ). after k x) e
