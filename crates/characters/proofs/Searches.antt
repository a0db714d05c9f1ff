-- The search for a name by the library's `position` finds the place that the definition says, and what a place that is found says.
-- Assumes nothing.
use mathlib.Core.Path.{◌≡◌, refl, sym, ap, ◌∙◌}
use mathlib.Core.Bool.{Bool, true, false, not, cond, false≢true}
use mathlib.Core.List.{List, [], ◌∷◌, ◌++◌}
use Prim.Native.Nat.{ℕ, suc, ◌+◌, ◌≤◌, ◌<◌}
use native.Mathlib.Nat.{zero-add}
use native.Mathlib.Omega.{arith}
use borrow.Author.Tests.{ltb-true, ltb-false, lt-ltb, le-ltb}
use lib.ListN.{length, length-map, length-append}
use Rattle.std.specs.Prelude.{map, unwrap_or, is_some, Some, None}
use Rattle.std.specs.List.{position, position_or_len}
use Rattle.std.proofs.lemmas.Option.{cond_some}
use Rattle.laws.proofs.Tests.{by_test}
use Rattle.characters.specs.Characters.{same}
use Rattle.characters.specs.Named.{Named, find, among, found}

module _ {X : Type 0} (f : X → Named) (s : List ℕ) where
  abbrev pub is_it : X → Bool
  is_it x = same (f x).name s

  pub find_first : (xs : List X) → position_or_len is_it xs ≡ find s (map f xs)
  unfolding find
  find_first [] = refl
  find_first (x ∷ xs) = more (is_it x) (find_first xs)
    where
      more : (b : Bool) {m n : ℕ} → m ≡ n → cond (not b) (1 + m) 0 ≡ elim b [ true ↦ 0 | false ↦ suc n ]
      more true e = refl
      more false e = omega (arith, e)

  pub found_is : (xs : List X) → position is_it xs ≡ found s (map f xs)
  found_is xs = rw (find_first xs, length-map xs f)

-- no place is past the list's length
pub find_le : (s : List ℕ) (a : List Named) → find s a ≤ length a
unfolding find
find_le s [] = omega arith
find_le s (e ∷ a) = more (same e.name s) (find_le s a)
  where
    more : (t : Bool) {m k : ℕ} → m ≤ k → (elim t as (λ b. ℕ) [ true ↦ 0 | false ↦ suc m ]) ≤ suc k
    more true h = omega arith
    more false h = omega (arith, h)

-- a name that is found stands at its place, and a name that isn't is none of them
module _ (s : List ℕ) (es : List Named) where
  pub found_at : {k : ℕ} → found s es ≡ Some k → (among s es ≡ true) × (find s es ≡ k)
  found_at e = cond_some (among s es) (find s es) _ e

  pub found_within : {k : ℕ} → found s es ≡ Some k → k < length es
  found_within e = let p = found_at e in omega (arith, p.1, ltb-true (find s es) (length es) p.0)

  pub found_none : found s es ≡ None → among s es ≡ false
  found_none e =
      by_test (among s es)
      (λ t. absurd (false≢true (sym (ap is_some (rw t at e)))))
      (λ t. t)

  pub find_by_found : find s es ≡ unwrap_or (found s es) (length es)
  find_by_found =
      by_test (among s es)
      (λ t. rw t refl)
      (λ t. rw t (omega (arith, find_le s es, ltb-false (find s es) (length es) t)))

-- a search through two lists, one after the other
module _ (s : List ℕ) (b : List Named) where
  first : (a : List Named) → find s a < length a → find s (a ++ b) ≡ find s a
  unfolding find
  first [] h = absurd (omega arith)
  first (e ∷ a) h = more (same e.name s) {m = find s a} {n = find s (a ++ b)} {k = length a} h (first a)
    where
      more : (t : Bool) {m n k : ℕ} → (elim t as (λ b. ℕ) [ true ↦ 0 | false ↦ suc m ]) < suc k → (m < k → n ≡ m)
          → (elim t as (λ b. ℕ) [ true ↦ 0 | false ↦ suc n ]) ≡ (elim t as (λ b. ℕ) [ true ↦ 0 | false ↦ suc m ])
      more true h f = refl
      more false h f = ap suc (f (omega (arith, h)))

  after : (a : List Named) → length a ≤ find s a → find s (a ++ b) ≡ length a + find s b
  unfolding find
  after [] h = sym (zero-add (find s b))
  after (e ∷ a) h = more (same e.name s) {m = find s a} {n = find s (a ++ b)} {k = length a} (find s b) h (after a)
    where
      more : (t : Bool) {m n k : ℕ} (j : ℕ) → suc k ≤ (elim t as (λ b. ℕ) [ true ↦ 0 | false ↦ suc m ]) → (k ≤ m → n ≡ k + j)
          → (elim t as (λ b. ℕ) [ true ↦ 0 | false ↦ suc n ]) ≡ suc k + j
      more true j h f = absurd (omega (arith, h))
      more false j h f = let e = f (omega (arith, h)) in omega (arith, e)

  pub found_in_first : (a : List Named) {k : ℕ} → found s a ≡ Some k → found s (a ++ b) ≡ Some k
  found_in_first a e =
      let h = ltb-true (find s a) (length a) (found_at s a e).0 in
      rw (first a h, lt-ltb (find s a) (length (a ++ b)) (omega (arith, h, length-append a b))) (ap Some (found_at s a e).1)

  pub found_in_second : (a : List Named) {k : ℕ} → found s a ≡ None → found s b ≡ Some k → found s (a ++ b) ≡ Some (length a + k)
  found_in_second a {k} n e =
      let p : find s (a ++ b) ≡ length a + k =
      after a (ltb-false (find s a) (length a) (found_none s a n)) ∙ ap (λ (j : ℕ). length a + j) (found_at s b e).1 in
      rw (p, lt-ltb (length a + k) (length (a ++ b)) (omega (arith, found_within s b e, length-append a b))) refl

  pub found_in_none : (a : List Named) → found s a ≡ None → found s b ≡ None → found s (a ++ b) ≡ None
  found_in_none a n m =
      let p = after a (ltb-false (find s a) (length a) (found_none s a n)) in
      rw (le-ltb (find s (a ++ b)) (length (a ++ b))
      (omega (arith, p, ltb-false (find s b) (length b) (found_none s b m), length-append a b))) refl
