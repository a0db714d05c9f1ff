-- The laws of the table's rows: an operator stands in its own row, past the table there is none, and what the rotations' width goes by.
-- Assumes nothing.
use mathlib.Core.Path.{◌≡◌, refl, ap}
use mathlib.Core.Bool.{Bool, true, false, not, cond}
use mathlib.Core.List.{List, [], ◌∷◌}
use Prim.Native.Nat.{ℕ, zero, suc, ◌+◌, ◌≤◌, ◌<◌}
use native.Mathlib.Omega.{arith}
use lib.Dec.{ltb}
use lib.ListN.{length, get_or-eq_default}
use borrow.Author.Tests.{ltb-true, ltb-false}
use Rattle.std.specs.Prelude.{map, unwrap_or}
use Rattle.std.specs.List.{position, position_or_len}
use Rattle.std.proofs.lemmas.List.Sums.{prefix_len-le-length}
use Rattle.laws.proofs.Tests.{by_test}
use Rattle.characters.specs.Characters.{same}
use Rattle.text_operators.specs.OperatorNames.{find_in}
use Rattle.text_operators.specs.declared.Entry.{Entry}
use Rattle.text_operators.specs.Operators.{table, row_of, no_entry, entry_in, rotations, width_by}

-- a row's operator stands in that row
pub row_is : (row : ℕ) → row < length table → row_of (entry_in row).operator ≡ row
row_is zero h = refl
row_is (suc zero) h = refl
row_is (suc (suc zero)) h = refl
row_is (suc (suc (suc zero))) h = refl
row_is (suc (suc (suc (suc zero)))) h = refl
row_is (suc (suc (suc (suc (suc zero))))) h = refl
row_is (suc (suc (suc (suc (suc (suc zero)))))) h = refl
row_is (suc (suc (suc (suc (suc (suc (suc zero))))))) h = refl
row_is (suc (suc (suc (suc (suc (suc (suc (suc zero)))))))) h = refl
row_is (suc (suc (suc (suc (suc (suc (suc (suc (suc zero))))))))) h = refl
row_is (suc (suc (suc (suc (suc (suc (suc (suc (suc (suc n)))))))))) h = absurd (omega arith)

pub no_row : (row : ℕ) → length table ≤ row → entry_in row ≡ no_entry
no_row row h = get_or-eq_default table no_entry h

-- an operator that has a strength stands in the table
pub row_small : (row k : ℕ) → (entry_in row).strength ≡ k → 0 < k → row < length table
row_small row k e h =
    by_test (ltb row (length table))
    (λ t. ltb-true row (length table) t)
    (λ t. absurd (omega (arith, ap (λ (x : Entry). x.strength) (no_row row (ltb-false row (length table) t)))))

-- "rotation as the left .. side"
pub rotation_width : (row l r : ℕ) → (entry_in row).strength ≡ rotations → width_by (entry_in row).widths l r ≡ l
rotation_width zero l r e = absurd (omega (arith, e))
rotation_width (suc zero) l r e = absurd (omega (arith, e))
rotation_width (suc (suc zero)) l r e = refl
rotation_width (suc (suc (suc zero))) l r e = refl
rotation_width (suc (suc (suc (suc zero)))) l r e = absurd (omega (arith, e))
rotation_width (suc (suc (suc (suc (suc zero))))) l r e = absurd (omega (arith, e))
rotation_width (suc (suc (suc (suc (suc (suc zero)))))) l r e = absurd (omega (arith, e))
rotation_width (suc (suc (suc (suc (suc (suc (suc zero))))))) l r e = absurd (omega (arith, e))
rotation_width (suc (suc (suc (suc (suc (suc (suc (suc zero)))))))) l r e = absurd (omega (arith, e))
rotation_width (suc (suc (suc (suc (suc (suc (suc (suc (suc zero))))))))) l r e = absurd (omega (arith, e))
rotation_width (suc (suc (suc (suc (suc (suc (suc (suc (suc (suc n)))))))))) l r e = absurd (omega (arith, e))

-- a name is looked for by the library's `position`, and found where the definition says
module _ {X : Type 0} (f : X → List ℕ) (s : List ℕ) where
  abbrev pub is_it : X → Bool
  is_it x = same s (f x)

  find_first : (xs : List X) → position_or_len is_it xs ≡ find_in (map f xs) s
  unfolding find_in
  find_first [] = refl
  find_first (x ∷ xs) = more (is_it x) (find_first xs)
    where
      more : (t : Bool) {m k : ℕ} → m ≡ k → cond (not t) (1 + m) 0 ≡ elim t [ true ↦ 0 | false ↦ suc k ]
      more true e = refl
      more false e = omega (arith, e)

  pub found : (xs : List X) → unwrap_or (position is_it xs) (length xs) ≡ find_in (map f xs) s
  found xs =
      by_test (ltb (position_or_len is_it xs) (length xs))
      (λ e. rw e (find_first xs))
      (λ e. rw e (omega (arith, find_first xs, ltb-false (position_or_len is_it xs) (length xs) e, prefix_len-le-length (λ x. not (is_it x)) xs)))
