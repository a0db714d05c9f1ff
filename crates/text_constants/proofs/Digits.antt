-- The laws of digits, as a number is read from them: it grows by at most four bits with a digit, and by a digit's own bits where its base is a power of two.
-- Assumes nothing.
use mathlib.Core.Path.{◌≡◌, refl, sym, ap, subst, ◌∙◌}
use mathlib.Core.Bool.{true, ◌&&◌}
use mathlib.Core.List.{List}
use Prim.Native.Nat.{ℕ, zero, suc, ◌+◌, ◌-◌, ◌*◌, ◌%◌, ◌^◌, ◌≤◌, ◌<◌}
use native.Mathlib.Nat.{mul-le-mul_left, add-zero, mul-zero, mul-suc, add_assoc, add_comm}
use native.Mathlib.Numerals.{sub-one}
use native.Mathlib.Omega.{arith}
use lib.Arith.{digits_lt}
use lib.Pow.{pow-add}
use lib.Dec.{leb}
use lib.ListN.{get_or}
use borrow.Author.Tests.{leb-true}
use Rattle.characters.specs.Ascii.{digit}
use Rattle.characters.specs.Characters.{belongs, run_end}
use Rattle.text_constants.specs.Constants.{number_at}
use Rattle.text_constants.specs.Sizes.{Sized}
use Rattle.word.specs.Word.{widest}
use Rattle.characters.specs.declared.Class.{Class}
use Rattle.characters.specs.declared.Class.TheVariants.{Binary, Octal}
use Rattle.characters.proofs.Runs.{first_of}
use Rattle.laws.proofs.Joined.{and_both}

-- a digit put behind a number of k bits, in a base up to 10
pub grows : (k v base d : ℕ) → v < 2 ^ k → base ≤ 10 → d < 16 → v * base + d < 2 ^ (k + 4)
grows k v base d h b e = omega (arith, pow-add 2 k 4, mul-le-mul_left v b)

-- one digit more
pub more_digits : (base : ℕ) (s : List ℕ) (at n v : ℕ) → 0 < n → number_at base s at n v ≡ number_at base s (at + 1) (n - 1) (v * base + get_or s at 0 % 16)
unfolding number_at
more_digits base s at zero v h = absurd (omega arith)
more_digits base s at (suc n) v h = ap (λ (k : ℕ). number_at base s (at + 1) k (v * base + get_or s at 0 % 16)) (sym (sub-one (suc n)))

pub no_digits : (base : ℕ) (s : List ℕ) (at n v : ℕ) → n ≤ 0 → number_at base s at n v ≡ v
unfolding number_at
no_digits base s at zero v h = refl
no_digits base s at (suc n) v h = absurd (omega arith)

-- n digits of `size` bits each, from a run of a class whose digits have no more
pub value_lt : (k : Class) (size : ℕ) → ((b : ℕ) → belongs k b ≡ true → b % 16 < 2 ^ size) → (s : List ℕ) (n at v m : ℕ)
    → at + n ≤ run_end k s at → v < 2 ^ m → number_at (2 ^ size) s at n v < 2 ^ (m + size * n)
unfolding number_at
value_lt k size small s zero at v m h l = subst (λ (e : ℕ). v < 2 ^ e) (sym (ap (λ (z : ℕ). m + z) (mul-zero size) ∙ add-zero m)) l
value_lt k size small s (suc n) at v m h l =
    let f = first_of k s at n h in
    subst (λ (e : ℕ). number_at (2 ^ size) s (at + 1) n (v * 2 ^ size + get_or s at 0 % 16) < 2 ^ e) exponent
    (value_lt k size small s n (at + 1) (v * 2 ^ size + get_or s at 0 % 16) (m + size) f.1
    (subst (λ (e : ℕ). v * 2 ^ size + get_or s at 0 % 16 < e) (sym (pow-add 2 m size)) (digits_lt l (small (get_or s at 0) f.0))))
  where
    exponent : m + size + size * n ≡ m + size * suc n
    exponent = add_assoc m size (size * n) ∙ ap (λ (z : ℕ). m + z) (add_comm size (size * n) ∙ sym (mul-suc size n))

-- the codes of the digits from 0 to `last` end in n numbers
small_of : (b last n : ℕ) → last ≤ digit 9 → last < digit n → leb (digit 0) b && leb b last ≡ true → b % 16 < n
small_of b last n l h e =
    let i = and_both (leb (digit 0) b) (leb b last) e in
    omega (arith, leb-true (digit 0) b i.0, leb-true b last i.1)

binary_small : (b : ℕ) → belongs Binary b ≡ true → b % 16 < 2 ^ 1
binary_small b e = small_of b (digit 1) 2 (omega arith) (omega arith) e

pub octal_small : (b : ℕ) → belongs Octal b ≡ true → b % 16 < 2 ^ 3
octal_small b e = small_of b (digit 7) 8 (omega arith) (omega arith) e

-- so that some number of them fits 16 bits
pub binary_sized : (most : ℕ) → 1 * most ≤ widest → Sized Binary 2 1 most
binary_sized most h = record { small = binary_small; power = refl; short = omega arith; some = omega arith; narrow = h }

pub octal_sized : (most : ℕ) → 3 * most ≤ widest → Sized Octal 8 3 most
octal_sized most h = record { small = octal_small; power = refl; short = omega arith; some = omega arith; narrow = h }
