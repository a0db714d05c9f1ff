-- The laws of the scan for the lowest offending place: its ends and its one step, as a loop over the places goes through them; and
-- what a scan that found nothing says of every value.
-- Assumes nothing.
use mathlib.Core.Path.{◌≡◌, refl, sym, ◌∙◌, subst}
use mathlib.Core.Bool.{Bool, true, false}
use mathlib.Core.List.{List, [], ◌∷◌}
use Prim.Native.Nat.{ℕ, zero, suc, ◌+◌, ◌≤◌, ◌<◌}
use native.Mathlib.Nat.{add-zero, zero-add, add-suc, suc-add, le_of_suc-le-suc, not-suc-le-zero}
use native.Mathlib.Numerals.{add-one}
use native.Mathlib.Omega.{arith}
use lib.ListN.{length, get_or, drop, drop_of_length-le}
use lib.Seq.{drop-cons}
use Rattle.std.specs.Prelude.{Some, None}
use Rattle.word.specs.Word.{fits}
use Rattle.state.specs.Checks.{first_too_wide}

module _ (width : ℕ → ℕ) (l : List ℕ) (i : ℕ) where
  -- past the last place
  pub scan_end : length l ≤ i → first_too_wide width i (drop i l) ≡ None
  unfolding first_too_wide
  scan_end h = rw (drop_of_length-le l h)

  -- at an offending place
  pub scan_stop : i < length l → fits (width i) (get_or l i 0) ≡ false → first_too_wide width i (drop i l) ≡ Some i
  unfolding first_too_wide
  scan_stop h e = rw (drop-cons l i 0 h, e, first_too_wide)

  -- past a place that fits
  pub scan_on : i < length l → fits (width i) (get_or l i 0) ≡ true → first_too_wide width i (drop i l) ≡ first_too_wide width (i + 1) (drop (i + 1) l)
  unfolding first_too_wide
  scan_on h e = rw (add-one i, drop-cons l i 0 h, e, first_too_wide)

-- where it finds nothing, every value fits
all_from : (width : ℕ → ℕ) (l : List ℕ) (at : ℕ) → first_too_wide width at l ≡ None
    → (k : ℕ) → k < length l → fits (width (at + k)) (get_or l k 0) ≡ true
unfolding first_too_wide
all_from width [] at h k q = absurd (not-suc-le-zero q)
all_from width (x ∷ xs) at h k q = go (fits (width at) x) refl (λ g. all_from width xs (suc at) g) k q
  where
    go : (b : Bool) → fits (width at) x ≡ b
        → (first_too_wide width (suc at) xs ≡ None → (k : ℕ) → k < length xs → fits (width (suc at + k)) (get_or xs k 0) ≡ true)
        → (k : ℕ) → k < length (x ∷ xs) → fits (width (at + k)) (get_or (x ∷ xs) k 0) ≡ true
    go false e rest k q = let found : Some at ≡ None = rw (e, first_too_wide) at h in cc
    go true e rest zero q = rw (add-zero at) e
    go true e rest (suc k) q =
        subst (λ (n : ℕ). fits (width n) (get_or xs k 0) ≡ true) (suc-add at k ∙ sym (add-suc at k)) (rest (rw (e, first_too_wide) at h) k (le_of_suc-le-suc q))

pub all_fit : (width : ℕ → ℕ) (l : List ℕ) → first_too_wide width 0 l ≡ None → (k : ℕ) → k < length l → fits (width k) (get_or l k 0) ≡ true
all_fit width l h k q = subst (λ (n : ℕ). fits (width n) (get_or l k 0) ≡ true) (zero-add k) (all_from width l 0 h k q)

-- and the other way round
none_from : (width : ℕ → ℕ) (l : List ℕ) (at : ℕ) → ((k : ℕ) → k < length l → fits (width (at + k)) (get_or l k 0) ≡ true)
    → first_too_wide width at l ≡ None
unfolding first_too_wide
none_from width [] at h = refl
none_from width (x ∷ xs) at h =
    let here : fits (width at) x ≡ true = subst (λ (n : ℕ). fits (width n) x ≡ true) (add-zero at) (h zero (omega arith)) in
    let later : (k : ℕ) → k < length xs → fits (width (suc at + k)) (get_or xs k 0) ≡ true =
    λ k q. subst (λ (n : ℕ). fits (width n) (get_or xs k 0) ≡ true) (add-suc at k ∙ sym (suc-add at k)) (h (suc k) (omega arith)) in
    rw (here, first_too_wide) (none_from width xs (suc at) later)

pub none_too_wide : (width : ℕ → ℕ) (l : List ℕ) → ((k : ℕ) → k < length l → fits (width k) (get_or l k 0) ≡ true) → first_too_wide width 0 l ≡ None
none_too_wide width l h =
    none_from width l 0 (λ k q. subst (λ (n : ℕ). fits (width n) (get_or l k 0) ≡ true) (sym (zero-add k)) (h k q))
