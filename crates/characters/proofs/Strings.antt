-- The laws of byte strings: two are compared place by place, and a part of a part is a part.
-- Assumes nothing.
use mathlib.Core.Path.{◌≡◌, refl, ap, ◌∙◌}
use mathlib.Core.Bool.{Bool, true, false≢true, ◌&&◌}
use mathlib.Core.List.{List, [], ◌∷◌}
use Prim.Native.Nat.{ℕ, zero, suc, ◌+◌, ◌≤◌}
use native.Mathlib.Omega.{arith}
use lib.Dec.{eqb}
use borrow.Author.Tests.{eqb-true}
use lib.ListN.{take, drop}
use lib.Seq.{take-nil, take-take}
use Rattle.std.specs.Str.{bytes_eq}
use Rattle.characters.specs.Characters.{same}
use Rattle.laws.proofs.Joined.{and_left, and_right}

-- the library's equality of byte strings is the definition's
pub same_bytes : (a b : List ℕ) → bytes_eq a b ≡ same a b
unfolding same
same_bytes [] [] = refl
same_bytes [] (y ∷ b) = refl
same_bytes (x ∷ a) [] = refl
same_bytes (x ∷ a) (y ∷ b) = ap (λ (t : Bool). eqb x y && t) (same_bytes a b)

-- strings that are the same are equal
pub equal : (a b : List ℕ) → same a b ≡ true → a ≡ b
unfolding same
equal [] [] e = refl
equal [] (y ∷ b) e = absurd (false≢true e)
equal (x ∷ a) [] e = absurd (false≢true e)
equal (x ∷ a) (y ∷ b) e =
    ap (λ (k : ℕ). k ∷ a) (eqb-true x y (and_left (eqb x y) (same a b) e)) ∙ ap (λ (l : List ℕ). y ∷ l) (equal a b (and_right (eqb x y) (same a b) e))

-- a part within a part
pub inner : (s : List ℕ) (n k m : ℕ) → k + n ≤ m → take n (drop k (take m s)) ≡ take n (drop k s)
inner s zero k m h = refl
inner [] (suc n) k m h = ap (λ (l : List ℕ). take (suc n) (drop k l)) (take-nil m)
inner (x ∷ s) (suc n) k zero h = absurd (omega arith)
inner (x ∷ s) (suc n) zero (suc m) h = ap (λ (l : List ℕ). x ∷ l) (take-take n m s (omega arith))
inner (x ∷ s) (suc n) (suc k) (suc m) h = inner s (suc n) k m (omega arith)
