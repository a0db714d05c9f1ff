-- What the rows' expressions come to, in the machine's own words: tests of one bit, and the test of an address that is indexed by.
-- Assumes nothing.
use mathlib.Core.Path.{◌≡◌, refl, sym, ap, ap₂, ◌∙◌}
use mathlib.Core.Bool.{Bool, true, false, not, ◌&&◌, ◌||◌, not-not}
use Prim.Native.Nat.{ℕ, zero, suc, ◌/◌, ◌^◌, ◌<◌}
use native.Mathlib.Nat.{not-suc-le-zero, le_of_suc-le-suc}
use native.Mathlib.Omega.{arith}
use lib.Bits.{bit_and, bit_or}
use lib.Dec.{eqb}
use Rattle.word.specs.Choice.{on, pick, bit}
use Rattle.word.specs.Word.{word_bits, bits, complement}
use Rattle.word.proofs.Choice.{on_bit}
use Rattle.machine_reference.specs.Address.{is_index}
use Rattle.machine_reference.proofs.Addresses.{index_is}

-- ---- one bit as a test

-- x is the bit of a test
pub record Flag (x : ℕ) (t : Bool) : Type 0 where
  pub is : x ≡ bit t

pub of_test : (t : Bool) → Flag (bit t) t
of_test t = record { is = refl }

pub of_bit : (x : ℕ) → x < 2 → Flag x (on x)
of_bit zero h = record { is = refl }
of_bit (suc zero) h = record { is = refl }
of_bit (suc (suc x)) h = absurd (not-suc-le-zero (le_of_suc-le-suc (le_of_suc-le-suc h)))

pub of_zero : (x : ℕ) → Flag (bit (eqb x 0)) (not (on x))
of_zero x = record { is = ap bit (sym (not-not (eqb x 0))) }

-- "Not" of one bit, "And" and "Or" of two
pub negated : {x : ℕ} {t : Bool} → Flag x t → Flag (complement 1 x) (not t)
negated {x} {t} p = record { is = ap (complement 1) p.is ∙ go t }
  where
    go : (u : Bool) → complement 1 (bit u) ≡ bit (not u)
    go true = refl
    go false = refl

pub flag_and : {x y : ℕ} {t u : Bool} → Flag x t → Flag y u → Flag (bit_and x y) (t && u)
flag_and {x} {y} {t} {u} p q = record { is = ap₂ bit_and p.is q.is ∙ go t u }
  where
    go : (a b : Bool) → bit_and (bit a) (bit b) ≡ bit (a && b)
    go true true = refl
    go true false = refl
    go false true = refl
    go false false = refl

pub flag_or : {x y : ℕ} {t u : Bool} → Flag x t → Flag y u → Flag (bit_or x y) (t || u)
flag_or {x} {y} {t} {u} p q = record { is = ap₂ bit_or p.is q.is ∙ go t u }
  where
    go : (a b : Bool) → bit_or (bit a) (bit b) ≡ bit (a || b)
    go true true = refl
    go true false = refl
    go false true = refl
    go false false = refl

-- a bit, as the rows test it
pub on_flag : {x : ℕ} {t : Bool} → Flag x t → on x ≡ t
on_flag {x} {t} p = ap on p.is ∙ on_bit t

-- a bit that is set where a test holds
pub set_where : (b t : Bool) → pick t 1 (bit b) ≡ bit (b || t)
set_where true true = refl
set_where true false = refl
set_where false true = refl
set_where false false = refl

-- ---- an address

-- "a first address from 0010 to 0017", by its bits 0 to 8
pub index_bits : {a : ℕ} → a < 2 ^ word_bits → eqb (bits word_bits 0 8 a) 1 ≡ is_index a
index_bits {a} h =
    let digits : bits word_bits 0 8 a ≡ a / 8 = omega arith in
    ap (λ (x : ℕ). eqb x 1) digits ∙ sym (index_is a)
