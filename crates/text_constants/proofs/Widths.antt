-- The widths of constants: each has 1 to 16 bits, and its value fits them.
-- Assumes nothing.
use mathlib.Core.Path.{subst}
use mathlib.Core.Bool.{◌&&◌}
use mathlib.Core.List.{List}
use Prim.Native.Nat.{ℕ, ◌+◌, ◌-◌, ◌*◌, ◌^◌, ◌≤◌, ◌<◌}
use native.Mathlib.Nat.{zero-add, mul-le-mul, mul-le-mul_left, le_trans}
use native.Mathlib.Omega.{arith}
use lib.Dec.{eqb, leb, ltb}
use lib.ListN.{get_or}
use lib.Pow.{pow_mono}
use borrow.Author.Tests.{leb-true}
use Rattle.std.specs.Prelude.{Option, Some, None}
use Rattle.word.specs.Word.{widest}
use Rattle.characters.specs.Characters.{is_digit, run_end}
use Rattle.text_constants.specs.Constants.{binary_mark, octal_mark, number_at, largest, is_plain, decimal_at, marked_at, shortest, of_decimal, constant_at, binary_digits, octal_digits}
use Rattle.characters.specs.declared.Class.{Class}
use Rattle.characters.specs.declared.Class.TheVariants.{Word, Binary, Octal, Decimal}
use Rattle.text_constants.specs.declared.Number.{Number}
use Rattle.text_constants.specs.declared.Constant.{Constant}
use Rattle.laws.proofs.Tests.{by_case}
use Rattle.text_constants.specs.Sizes.{Sized, Narrow}
use Rattle.text_constants.proofs.Digits.{value_lt, binary_sized, octal_sized}
use Rattle.text_constants.proofs.Readings.{digits_between}
use Rattle.text_constants.proofs.Shortest.{shortest_le, shortest_least}

-- a constant of 1 to 16 bits, which its value fits
abbrev pub Fitting : Option Constant → Type 0
Fitting (Some d) = record { some : 1 ≤ d.width; narrow : d.width ≤ widest; fits : d.value < 2 ^ d.width }
Fitting None = Unit {0}

-- digits of `size` bits each behind a mark
marked_fits : (k : Class) (base size most : ℕ) → Sized k base size most → (s : List ℕ) (at : ℕ) → Fitting (marked_at k base size most s at)
unfolding marked_at
marked_fits k base size most z s at =
    by_case Fitting (ltb at (run_end k s at) && leb (run_end k s at) (at + most))
    (λ t.
    let l = digits_between at (run_end k s at) most t in
    let n = run_end k s at - at in
    record {
      some = positive n (omega arith);
      narrow = le_trans (mul-le-mul_left size (omega arith)) z.narrow;
      fits =
          subst (λ (e : ℕ). number_at base s at n 0 < 2 ^ e) (zero-add (size * n))
          (rw z.power (value_lt k size z.small s n at 0 0 (omega arith) (omega arith)));
    })
    (λ t. tt)
  where
    positive : (n : ℕ) → 1 ≤ n → 1 ≤ size * n
    positive n l = mul-le-mul z.some l

-- "one bit longer than its shortest form"
longer_fits : (v : ℕ) → v ≤ largest → (v < 2 ^ (shortest v + 1)) × (shortest v + 1 ≤ widest)
longer_fits v h =
    let l : v < 2 ^ shortest v = (shortest_least v h).holds in
    let m : 2 ^ shortest v ≤ 2 ^ (shortest v + 1) = pow_mono {i = shortest v} {j = shortest v + 1} (omega arith) in
    omega (arith, shortest_le 14 1 v)

decimal_fits : (s : List ℕ) (at : ℕ) → Fitting (of_decimal (decimal_at s at))
unfolding decimal_at of_decimal
decimal_fits s at =
    by_case (λ (n : Option Number). Fitting (of_decimal n)) (is_digit (get_or s at 0) && is_plain (get_or s at 0) at (run_end Decimal s at) (run_end Word s at))
    (λ t.
    by_case (λ (n : Option Number). Fitting (of_decimal n)) (leb (number_at 10 s at (run_end Word s at - at) 0) largest)
    (λ u.
    let h = longer_fits (number_at 10 s at (run_end Word s at - at) 0) (leb-true (number_at 10 s at (run_end Word s at - at) 0) largest u) in
    record { some = omega arith; narrow = h.1; fits = h.0 })
    (λ u. tt))
    (λ t. tt)

pub constant_fits : (s : List ℕ) (at : ℕ) → Fitting (constant_at s at)
unfolding constant_at
constant_fits s at =
    by_case Fitting (eqb (get_or s at 0) binary_mark)
    (λ t. marked_fits Binary 2 1 binary_digits (binary_sized binary_digits (omega arith)) s (at + 1))
    (λ t.
    by_case Fitting (eqb (get_or s at 0) octal_mark)
    (λ u. marked_fits Octal 8 3 octal_digits (octal_sized octal_digits (omega arith)) s (at + 1))
    (λ u. decimal_fits s at))

pub constant_narrow : (s : List ℕ) (at : ℕ) → Narrow (constant_at s at)
constant_narrow s at = narrow (constant_at s at) (constant_fits s at)
  where
    narrow : (c : Option Constant) → Fitting c → Narrow c
    narrow (Some d) h = h.narrow
    narrow None h = tt
