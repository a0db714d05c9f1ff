-- The laws of a choice: what holds of both values holds of the chosen one; and of the test by which it goes.
-- Assumes nothing.
use Rattle.std.proofs.Common.{◌≡◌, ℕ, zero, suc, ◌<◌, Bool, true, false, not, ◌&&◌, ◌||◌, refl, ap, arith, ne_eqb}
use lib.Bits.{bit_and, bit_or}
use Rattle.word.specs.Choice.{on, pick, bit}

pub pick_either : {A : Type 0} (P : A → Type 0) (b : Bool) {x y : A} → P x → P y → P (pick b x y)
pick_either P true p q = p
pick_either P false p q = q

-- a case by a test whose value is known
pub case_true {ℓ} : {A : Type ℓ} (b : Bool) (x y : A) → b ≡ true → elim b [ true ↦ x | false ↦ y ] ≡ x
case_true true x y e = refl
case_true false x y e = let z : ◌≡◌ {A = ℕ} 0 1 = cc in absurd (omega arith)

pub case_false {ℓ} : {A : Type ℓ} (b : Bool) (x y : A) → b ≡ false → elim b [ true ↦ x | false ↦ y ] ≡ y
case_false true x y e = let z : ◌≡◌ {A = ℕ} 0 1 = cc in absurd (omega arith)
case_false false x y e = refl

-- what is above 0 is on
pub on_some : (n : ℕ) → 0 < n → on n ≡ true
on_some n h = ap not (ne_eqb n 0 (λ q. omega arith))

-- a test as a bit
pub on_bit : (t : Bool) → on (bit t) ≡ t
on_bit true = refl
on_bit false = refl

pub bit_lt : (t : Bool) → bit t < 2
bit_lt true = omega arith
bit_lt false = omega arith

-- two bits that are both on, as one test of their and
pub on_and : (a b : ℕ) → a < 2 → b < 2 → on a && on b ≡ on (bit_and a b)
on_and zero zero h q = refl
on_and zero (suc zero) h q = refl
on_and (suc zero) zero h q = refl
on_and (suc zero) (suc zero) h q = refl
on_and (suc (suc a)) b h q = absurd (omega arith)
on_and zero (suc (suc b)) h q = absurd (omega arith)
on_and (suc zero) (suc (suc b)) h q = absurd (omega arith)

-- two bits of which one is on, as one test of their or
pub on_or : (a b : ℕ) → a < 2 → b < 2 → on a || on b ≡ on (bit_or a b)
on_or zero zero h q = refl
on_or zero (suc zero) h q = refl
on_or (suc zero) zero h q = refl
on_or (suc zero) (suc zero) h q = refl
on_or (suc (suc a)) b h q = absurd (omega arith)
on_or zero (suc (suc b)) h q = absurd (omega arith)
on_or (suc zero) (suc (suc b)) h q = absurd (omega arith)
