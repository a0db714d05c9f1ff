-- What is read, by the tests of the definition: how many digits count behind a mark, whether a decimal is one, which kind of constant stands at a place by its first
-- byte; and past a line's end there is none.
-- Assumes nothing.
use mathlib.Core.Path.{◌≡◌, refl, sym, ap, ◌∙◌}
use mathlib.Core.Bool.{Bool, true, false, ◌&&◌}
use mathlib.Core.List.{List}
use Prim.Native.Nat.{ℕ, ◌+◌, ◌-◌, ◌*◌, ◌^◌, ◌≤◌, ◌<◌}
use native.Mathlib.Nat.{mul-le-mul_left, mul-le-mul_right, le_trans}
use native.Mathlib.Omega.{arith}
use lib.Pow.{pow_mono}
use lib.Dec.{eqb, leb, ltb}
use lib.ListN.{length, get_or, get_or-eq_default}
use borrow.Author.Tests.{leb-true, ltb-true, ltb-false, lt-ltb, le-leb, lt-leb, eq-eqb, ne_eqb}
use Rattle.std.specs.Prelude.{Option, None}
use Rattle.characters.specs.Characters.{is_digit, run_end}
use Rattle.text_constants.specs.Constants.{binary_mark, octal_mark, binary_digits, octal_digits, largest, number_at, shortest, is_plain, decimal_at, marked_at, of_decimal, constant_at, plain, found}
use Rattle.text_constants.specs.Sizes.{Sized}
use Rattle.word.specs.Word.{widest}
use Rattle.word.specs.Choice.{pick}
use Rattle.characters.specs.declared.Class.{Class}
use Rattle.characters.specs.declared.Class.TheVariants.{Word, Binary, Octal, Decimal}
use Rattle.text_constants.specs.declared.Constant.{Constant}
use Rattle.characters.proofs.Runs.{onward, within, at_end}
use Rattle.laws.proofs.Joined.{and_left, and_right}
use Rattle.laws.proofs.Tests.{by_test, by_case}
use Rattle.text_constants.proofs.Digits.{value_lt}

-- how many digits stand behind a mark
pub digits_between : (at r most : ℕ) → ltb at r && leb r (at + most) ≡ true → (at < r) × (r ≤ at + most)
digits_between at r most t =
    (ltb-true at r (and_left (ltb at r) (leb r (at + most)) t), leb-true r (at + most) (and_right (ltb at r) (leb r (at + most)) t))

-- n digits of a run, which are neither none nor too many, make a constant; none, or too many, make none
module _ (k : Class) (base size most : ℕ) (s : List ℕ) (at : ℕ) where
  pub marked_found : (n : ℕ) → run_end k s at ≡ at + n → 1 ≤ n → n ≤ most → marked_at k base size most s at ≡ found (number_at base s at n 0) (size * n) (at + n)
  unfolding marked_at
  marked_found n e l h =
      let r = run_end k s at in
      let some : ltb at r ≡ true = lt-ltb at r (omega (arith, e)) in
      let few : leb r (at + most) ≡ true = le-leb r (at + most) (omega (arith, e)) in
      let many : r - at ≡ n = omega (arith, e) in
      rw (some, few, marked_at)
      (ap (λ (j : ℕ). found (number_at base s at j 0) (size * j) r) many ∙ ap (λ (p : ℕ). found (number_at base s at n 0) (size * n) p) e)

  -- given by numbers that are these
  pub found_as : (n v w p : ℕ) → run_end k s at ≡ at + n → 1 ≤ n → n ≤ most → v ≡ number_at base s at n 0 → w ≡ size * n → p ≡ at + n
      → found v w p ≡ marked_at k base size most s at
  found_as n v w p e l h value width place =
      ap (λ (x : ℕ). found x w p) value
      ∙ ap (λ (x : ℕ). found (number_at base s at n 0) x p) width
      ∙ ap (λ (x : ℕ). found (number_at base s at n 0) (size * n) x) place
      ∙ sym (marked_found n e l h)

  pub marked_missing : (n : ℕ) → run_end k s at ≡ at + n → (1 ≤ n → n ≤ most → ⊥) → marked_at k base size most s at ≡ None
  unfolding marked_at
  marked_missing n e h =
      by_case (λ (c : Option Constant). c ≡ None) (ltb at (run_end k s at) && leb (run_end k s at) (at + most))
      (λ t.
      let l = digits_between at (run_end k s at) most t in
      absurd (h (omega (arith, e)) (omega (arith, e))))
      (λ t. refl)

-- n digits that count: they lie within the line, and their number and its width fit 16 bits
pub record Counted (k : Class) (base size most : ℕ) (s : List ℕ) (at n : ℕ) : Type 0 where
  pub end : run_end k s at ≡ at + n
  pub some : 1 ≤ n
  pub few : n ≤ most
  pub short : n ≤ widest
  pub inside : at + n ≤ length s
  pub width : size * n ≤ widest
  pub value : number_at base s at n 0 < 2 ^ widest

-- as the code counts them in a run up to r
module _ (k : Class) (base size most : ℕ) (s : List ℕ) (at r n : ℕ) (e : r ≡ run_end k s at) (c : n ≡ pick (leb (r - at) most) (r - at) 0) where
  pub none_counts : n ≡ 0 → marked_at k base size most s at ≡ None
  none_counts z =
      marked_missing k base size most s at (r - at) (omega (arith, e, onward k s at))
      (λ l m. absurd (omega (arith, c ∙ ap (λ (b : Bool). pick b (r - at) 0) (le-leb (r - at) most m))))

  all_count : (n ≡ 0 → ⊥) → (run_end k s at ≡ at + n) × (1 ≤ n) × (n ≤ most)
  all_count h =
      by_test (leb (r - at) most)
      (λ t.
      let all : n ≡ r - at = c ∙ ap (λ (b : Bool). pick b (r - at) 0) t in
      omega (arith, e, onward k s at, leb-true (r - at) most t))
      (λ t. absurd (h (c ∙ ap (λ (b : Bool). pick b (r - at) 0) t)))

  pub some_count : Sized k base size most → (n ≡ 0 → ⊥) → Counted k base size most s at n
  some_count z h =
      let i = all_count h in
      let width : size * n ≤ widest = le_trans (mul-le-mul_left size i.2) z.narrow in
      let number : number_at (2 ^ size) s at n 0 < 2 ^ (0 + size * n) = value_lt k size z.small s n at 0 0 (omega arith) (omega arith) in
      let most-bits : 2 ^ (0 + size * n) ≤ 2 ^ widest = pow_mono {i = 0 + size * n} {j = widest} (omega arith) in
      record {
        end = i.0;
        some = i.1;
        few = i.2;
        short = omega (arith, mul-le-mul_right n z.some);
        inside =
            by_test (ltb at (length s))
            (λ t. omega (arith, within k s at (omega (arith, ltb-true at (length s) t))))
            (λ t. absurd (omega (arith, at_end k s at (ltb-false at (length s) t))));
        width = width;
        value = rw z.power (omega arith);
      }

-- a decimal by the tests of its definition: it is one, its number is too large, or it is none
module _ (s : List ℕ) (at : ℕ) where
  abbrev Plainly : Bool → Type 0
  Plainly t = is_digit (get_or s at 0) && is_plain (get_or s at 0) at (run_end Decimal s at) (run_end Word s at) ≡ t

  abbrev pub written : ℕ
  written = number_at 10 s at (run_end Word s at - at) 0

  pub decimal_found : Plainly true → written ≤ largest → decimal_at s at ≡ plain written (run_end Word s at)
  unfolding decimal_at
  decimal_found t h = rw (t, le-leb written largest h, decimal_at)

  pub decimal_large : Plainly true → largest < written → decimal_at s at ≡ None
  unfolding decimal_at
  decimal_large t h = rw (t, lt-leb written largest h, decimal_at)

  pub decimal_none : Plainly false → decimal_at s at ≡ None
  unfolding decimal_at
  decimal_none t = rw (t, decimal_at)

-- a decimal as a constant, of a width that is this one
pub decimal_as : (v w p : ℕ) → w ≡ shortest v + 1 → found v w p ≡ of_decimal (plain v p)
unfolding of_decimal
decimal_as v w p e = ap (λ (x : ℕ). found v x p) e

-- the byte at a place tells which kind stands there, if any does
module _ (s : List ℕ) (at : ℕ) where
  pub by_binary : get_or s at 0 ≡ binary_mark → constant_at s at ≡ marked_at Binary 2 1 binary_digits s (at + 1)
  unfolding constant_at
  by_binary e = rw (eq-eqb (get_or s at 0) binary_mark e, constant_at)

  pub by_octal : get_or s at 0 ≡ octal_mark → constant_at s at ≡ marked_at Octal 8 3 octal_digits s (at + 1)
  unfolding constant_at
  by_octal e =
      let no_binary : eqb (get_or s at 0) binary_mark ≡ false = ap (λ (b : ℕ). eqb b binary_mark) e in
      rw (no_binary, eq-eqb (get_or s at 0) octal_mark e, constant_at)

  pub by_decimal : (get_or s at 0 ≡ binary_mark → ⊥) → (get_or s at 0 ≡ octal_mark → ⊥) → constant_at s at ≡ of_decimal (decimal_at s at)
  unfolding constant_at
  by_decimal h g = rw (ne_eqb (get_or s at 0) binary_mark h, ne_eqb (get_or s at 0) octal_mark g, constant_at)

  -- read from the place behind the mark, however that is reckoned
  pub behind_as : (k : Class) (base size most p : ℕ) (c : Option Constant) → constant_at s at ≡ marked_at k base size most s (at + 1) → p ≡ at + 1
      → c ≡ marked_at k base size most s p → c ≡ constant_at s at
  behind_as k base size most p c e i h = h ∙ ap (λ (j : ℕ). marked_at k base size most s j) i ∙ sym e

-- past the end stands neither a decimal nor another constant
module _ (s : List ℕ) (at : ℕ) (h : length s ≤ at) where
  pub decimal_past_end : decimal_at s at ≡ None
  unfolding decimal_at
  decimal_past_end = rw (get_or-eq_default s 0 h, decimal_at)

  pub constant_past_end : constant_at s at ≡ None
  unfolding of_decimal
  constant_past_end =
      let z : get_or s at 0 ≡ 0 = get_or-eq_default s 0 h in
      by_decimal s at (λ e. absurd (omega (arith, z, e))) (λ e. absurd (omega (arith, z, e))) ∙ ap of_decimal decimal_past_end
