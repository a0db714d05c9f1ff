-- A list with another value at a place, which a function makes of the one that stood there, by a choice at one place after the other.
-- Assumes nothing.
use mathlib.Core.Path.{◌≡◌, refl, sym, ap, ◌∙◌}
use mathlib.Core.Bool.{Bool, true, false}
use mathlib.Core.List.{List}
use Prim.Native.Nat.{ℕ, ◌+◌, ◌≤◌, ◌<◌}
use native.Mathlib.Omega.{arith}
use lib.Dec.{eqb, ltb}
use lib.ListN.{get_or, set}
use lib.Seq.{set-get_or}
use borrow.Author.Tests.{eqb-true, eqb-false, ltb-true, ltb-false, lt-ltb, le-ltb}
use Rattle.word.specs.Choice.{pick}

-- the list after the choices at the places below k: z at place i
abbrev pub chosen : List ℕ → ℕ → ℕ → ℕ → List ℕ
chosen l i z k = pick (ltb i k) (set l i z) l

pub none_chosen : (l : List ℕ) (i z k : ℕ) → k ≤ i → l ≡ chosen l i z k
none_chosen l i z k h = sym (ap (λ (t : Bool). pick t (set l i z) l) (le-ltb i k h))

-- a place that is not i changes nothing
passed : (i k : ℕ) → (i ≡ k → ⊥) → ltb i k ≡ ltb i (k + 1)
passed i k h = from (ltb i k) refl
  where
    from : (t : Bool) → ltb i k ≡ t → ltb i k ≡ ltb i (k + 1)
    from true e = e ∙ sym (lt-ltb i (k + 1) (omega (arith, ltb-true i k e)))
    from false e = e ∙ sym (le-ltb i (k + 1) (omega (arith, ltb-false i k e, h)))

pub one_choice : (l : List ℕ) (i k : ℕ) (f : ℕ → ℕ) (w : List ℕ) → w ≡ chosen l i (f (get_or l i 0)) k
    → set w k (pick (eqb i k) (f (get_or w k 0)) (get_or w k 0)) ≡ chosen l i (f (get_or l i 0)) (k + 1)
one_choice l i k f w q = by (eqb i k) refl
  where
    by : (t : Bool) → eqb i k ≡ t → set w k (pick t (f (get_or w k 0)) (get_or w k 0)) ≡ chosen l i (f (get_or l i 0)) (k + 1)
    by true e =
        let here = eqb-true i k e in
        let before : w ≡ l = q ∙ ap (λ (t : Bool). pick t (set l i (f (get_or l i 0))) l) (le-ltb i k (omega (arith, here))) in
        ap (λ (x : List ℕ). set x k (f (get_or x k 0))) before
        ∙ ap (λ (n : ℕ). set l n (f (get_or l n 0))) (sym here)
        ∙ sym (ap (λ (t : Bool). pick t (set l i (f (get_or l i 0))) l) (lt-ltb i (k + 1) (omega (arith, here))))
    by false e =
        set-get_or w k 0 ∙ q ∙ ap (λ (t : Bool). pick t (set l i (f (get_or l i 0))) l) (passed i k (eqb-false i k e))

pub all_chosen : (l : List ℕ) (i z k : ℕ) → i < k → chosen l i z k ≡ set l i z
all_chosen l i z k h = ap (λ (t : Bool). pick t (set l i z) l) (lt-ltb i k h)
