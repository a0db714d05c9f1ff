-- The laws of lists that a table or a page is: a place within one, and runs of stores, one behind the other.
-- Assumes nothing.
use mathlib.Core.Path.{◌≡◌, refl, sym, ap, ◌∙◌}
use mathlib.Core.List.{List, [], ◌∷◌, ◌++◌}
use Prim.Native.Nat.{ℕ, zero, suc, ◌+◌, ◌≤◌, ◌<◌}
use native.Mathlib.Nat.{zero-add, add-zero, add-suc, suc-add, le_of_lt}
use native.Mathlib.Numerals.{add-one}
use native.Mathlib.Omega.{arith}
use lib.Dec.{ltb}
use lib.ListN.{length, get_or, set, take, drop, drop_of_length-le, get_or-eq_default}
use lib.Seq.{sets, take-suc, length-take-le, drop-cons}
use borrow.Author.Tests.{ltb-true, ltb-false}
use Rattle.laws.proofs.Tests.{by_test}

-- within a list the default doesn't count
pub any_default : {A : Type 0} (l : List A) (i : ℕ) (x y : A) → i < length l → get_or l i x ≡ get_or l i y
any_default [] i x y h = absurd (omega arith)
any_default (a ∷ l) zero x y h = refl
any_default (a ∷ l) (suc i) x y h = any_default l i x y (omega arith)

-- a number that isn't 0 stands within the list
pub present : (s : List ℕ) (at b : ℕ) → get_or s at 0 ≡ b → 0 < b → at < length s
present s at b e h =
    by_test (ltb at (length s))
    (λ t. ltb-true at (length s) t)
    (λ t. absurd (omega (arith, get_or-eq_default s 0 (ltb-false at (length s) t))))

-- a store past the first of two lists
pub set-append-add : {A : Type 0} (xs ys : List A) (n : ℕ) (a : A) → set (xs ++ ys) (length xs + n) a ≡ xs ++ set ys n a
set-append-add [] ys n a = ap (λ (k : ℕ). set ys k a) (zero-add n)
set-append-add {A} (x ∷ xs) ys n a =
    ap (λ (k : ℕ). set (x ∷ (xs ++ ys)) k a) (suc-add (length xs) n) ∙ ap (λ (l : List A). x ∷ l) (set-append-add xs ys n a)

-- two runs of stores, one behind the other, are one
pub sets-append : (l : List ℕ) (i : ℕ) (a b : List ℕ) → sets (sets l i a) (i + length a) b ≡ sets l i (a ++ b)
sets-append l i [] b = rw (add-zero i)
sets-append l i (x ∷ a) b =
    ap (λ (k : ℕ). sets (sets (set l i x) (suc i) a) k b) (add-suc i (length a) ∙ sym (suc-add i (length a)))
    ∙ sets-append (set l i x) (suc i) a b

-- the same, at an index that is known to follow
pub sets_behind : (l : List ℕ) (i j : ℕ) (a b : List ℕ) → j ≡ i + length a → sets (sets l i a) j b ≡ sets l i (a ++ b)
sets_behind l i j a b e = ap (λ (k : ℕ). sets (sets l i a) k b) e ∙ sets-append l i a b

-- one number more, as a loop that copies a list stores it
pub sets_more : (l s : List ℕ) (at i : ℕ) → i < length s → set (sets l at (take i s)) (at + i) (get_or s i 0) ≡ sets l at (take (i + 1) s)
sets_more l s at i h =
    sets_behind l at (at + i) (take i s) (get_or s i 0 ∷ []) (ap (λ (k : ℕ). at + k) (sym (length-take-le i s (le_of_lt h))))
    ∙ ap (sets l at) (sym (ap (λ (k : ℕ). take k s) (add-one i) ∙ take-suc s i 0 h))

-- n places of a list one by one from a place on, then a rest
abbrev pub spelled : ℕ → ℕ → List ℕ → List ℕ → List ℕ
spelled at zero rest l = rest
spelled at (suc n) rest l = get_or l at 0 ∷ spelled (suc at) n rest l

-- with the places that follow they are the list
pub spelled_is : (at n : ℕ) (l : List ℕ) → at + n ≤ length l → drop at l ≡ spelled at n (drop (at + n) l) l
spelled_is at zero l h = ap (λ (k : ℕ). drop k l) (sym (add-zero at))
spelled_is at (suc n) l h =
    drop-cons l at 0 (omega arith)
    ∙ ap (λ (t : List ℕ). get_or l at 0 ∷ t)
    (spelled_is (suc at) n l (omega arith) ∙ ap (λ (k : ℕ). spelled (suc at) n (drop k l) l) (suc-add at n ∙ sym (add-suc at n)))

-- a list of n places, one by one
pub spelled_all : (n : ℕ) (l : List ℕ) → length l ≡ n → spelled 0 n [] l ≡ l
spelled_all n l e =
    let h : length l ≤ 0 + n = omega (arith, e) in
    sym (spelled_is 0 n l (omega (arith, e)) ∙ ap (λ (rest : List ℕ). spelled 0 n rest l) (drop_of_length-le l h))
