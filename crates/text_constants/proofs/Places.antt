-- Where a constant lies: it ends past its start and within the line, and what stands before its start counts for nothing.
-- Assumes nothing.
use mathlib.Core.Path.{◌≡◌, refl, sym, ap, subst, ◌∙◌}
use mathlib.Core.List.{List, ◌∷◌, ◌++◌}
use Prim.Native.Nat.{ℕ, ◌+◌, ◌≤◌, ◌<◌}
use native.Mathlib.Omega.{arith}
use lib.ListN.{length, drop, length-drop, length-append}
use Rattle.std.specs.Prelude.{Option, Some, None}
use Rattle.characters.specs.declared.Class.{Class}
use Rattle.text_constants.specs.declared.Number.{Number}
use Rattle.text_constants.specs.declared.Constant.{Constant}
use Rattle.text_constants.specs.Constants.{decimal_at, constant_at}
use Rattle.text_constants.specs.Numerals.{IsMarked, IsDecimal, IsConstant, binary, octal, decimal}
use Rattle.text_constants.proofs.Numerals.{decimal_said, constant_said, constant_read, no_constant, is_missing_lem}

-- after `at`, and within the line
abbrev pub Past : List ℕ → ℕ → ℕ → Type 0
Past s at p = (at < p) × (p ≤ length s)

-- the same of what is read, if something is
abbrev pub NumberPast : List ℕ → ℕ → Option Number → Type 0
NumberPast s at (Some d) = Past s at d.place
NumberPast s at None = Unit {0}

abbrev pub ConstantPast : List ℕ → ℕ → Option Constant → Type 0
ConstantPast s at (Some d) = Past s at d.place
ConstantPast s at None = Unit {0}

module _ (s : List ℕ) (at : ℕ) where
  -- what stands from a place on lies within the line
  inside : (front rest : List ℕ) → drop at s ≡ front ++ rest → 1 ≤ length front → at + length front ≤ length s
  inside front rest e h = omega (arith, length-drop at s, ap (length {A = ℕ}) e ∙ length-append front rest)

  is_decimal_past : {v p : ℕ} → IsDecimal (drop at s) at v p → Past s at p
  is_decimal_past h = omega (arith, h.after, h.some, inside h.digits h.rest h.stands h.some)

  is_marked_past : {mark : ℕ} {k : Class} {size most v w p : ℕ} → IsMarked mark k size most (drop at s) at v w p → Past s at p
  is_marked_past {mark = mark} h = omega (arith, h.after, inside (mark ∷ h.digits) h.rest h.stands (omega arith))

  is_constant_past : {v w p : ℕ} → IsConstant (drop at s) at v w p → Past s at p
  is_constant_past (binary h) = is_marked_past h
  is_constant_past (octal h) = is_marked_past h
  is_constant_past (decimal h g) = is_decimal_past h

  number_past : (x : Option Number) → decimal_at s at ≡ x → NumberPast s at x
  number_past (Some d) e = is_decimal_past (decimal_said s at e)
  number_past None e = tt

  pub decimal_past : {x : Option Number} → decimal_at s at ≡ x → NumberPast s at x
  decimal_past {x = x} e = number_past x e

  past : (x : Option Constant) → constant_at s at ≡ x → ConstantPast s at x
  past (Some d) e = is_constant_past (constant_said s at e)
  past None e = tt

  pub constant_past : {x : Option Constant} → constant_at s at ≡ x → ConstantPast s at x
  constant_past {x = x} e = past x e

-- lines that are the same from the start on have the same constant there
pub constant_forward : (s t : List ℕ) (at : ℕ) → drop at s ≡ drop at t → constant_at s at ≡ constant_at t at
constant_forward s t at e = same (constant_at s at) refl
  where
    same : (x : Option Constant) → constant_at s at ≡ x → x ≡ constant_at t at
    same (Some d) f = sym (constant_read t at (subst (λ (l : List ℕ). IsConstant l at d.value d.width d.place) e (constant_said s at f)))
    same None f = sym (is_missing_lem t at (λ v w p h. no_constant s at f v w p (subst (λ (l : List ℕ). IsConstant l at v w p) (sym e) h)))
