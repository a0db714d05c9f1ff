-- The simulation law: two runs whose steps stay related, and that go on alike, end related and after the same number of steps.
-- Assumes nothing.
use mathlib.Core.Path.{◌≡◌, refl, sym, ap, ap₂, ◌∙◌, subst}
use mathlib.Core.Bool.{Bool, true, false}
use Prim.Native.Nat.{ℕ, zero, suc}
use Rattle.runs.specs.Run.{Ended, ended, run_from, run}

-- two ends: what is left is related, after the same number of steps
pub record Alike {A B : Type 0} (R : A → B → Type 0) (a : Ended A) (b : Ended B) : Type 0 where
  pub related : R a.left b.left
  pub steps : b.steps ≡ a.steps

module _ {A B : Type 0} (R : A → B → Type 0) (goes_on : A → Bool) (step : A → A) (goes_on' : B → Bool) (step' : B → B)
    (alike : (a : A) (b : B) → R a b → goes_on' b ≡ goes_on a) (kept : (a : A) (b : B) → R a b → R (step a) (step' b)) where
  -- one test decides of both
  decided : (t u : Bool) (a b : Ended A) (x y : Ended B) → u ≡ t → Alike R a x → Alike R b y
      → Alike R (elim t [ true ↦ a | false ↦ b ]) (elim u [ true ↦ x | false ↦ y ])
  decided t u a b x y e p q = subst (λ (v : Bool). Alike R (elim t [ true ↦ a | false ↦ b ]) (elim v [ true ↦ x | false ↦ y ])) (sym e) (go t)
    where
      go : (v : Bool) → Alike R (elim v [ true ↦ a | false ↦ b ]) (elim v [ true ↦ x | false ↦ y ])
      go true = p
      go false = q

  alike_from : (budget done : ℕ) (a : A) (b : B) → R a b → Alike R (run_from goes_on step budget done a) (run_from goes_on' step' budget done b)
  unfolding run_from
  alike_from zero done a b r = record { related = r; steps = refl }
  alike_from (suc budget) done a b r =
      decided (goes_on a) (goes_on' b) (run_from goes_on step budget (suc done) (step a)) (ended done a)
      (run_from goes_on' step' budget (suc done) (step' b))
      (ended done b)
      (alike a b r)
      (alike_from budget (suc done) (step a) (step' b) (kept a b r))
      (record { related = r; steps = refl })

  pub runs_alike : (budget : ℕ) (a : A) (b : B) → R a b → Alike R (run goes_on step budget a) (run goes_on' step' budget b)
  runs_alike budget a b r = alike_from budget 0 a b r

-- so two runs by the same steps are the same: the steps need be the same only where P holds, which each step keeps
module _ {A : Type 0} (P : A → Type 0) (goes_on : A → Bool) (step : A → A) (goes_on' : A → Bool) (step' : A → A)
    (same-on : (x : A) → goes_on' x ≡ goes_on x) (same_step : (x : A) → P x → step' x ≡ step x) (kept : (x : A) → P x → P (step x)) where
  -- one state, of which P holds
  record One (a b : A) : Type 0 where
    is : b ≡ a
    holds : P a

  pub same_runs : (budget : ℕ) (x : A) → P x → run goes_on' step' budget x ≡ run goes_on step budget x
  same_runs budget x p =
      let ends = runs_alike One goes_on step goes_on' step'
      (λ a b r. ap goes_on' r.is ∙ same-on a)
      (λ a b r. record { is = ap step' r.is ∙ same_step a r.holds; holds = kept a r.holds })
      budget x x (record { is = refl; holds = p }) in
      ap₂ ended ends.steps ends.related.is
