-- LAC stays within its 13 bits, and AC within its 12, when L or AC is read or written and when a sum wraps. The code writes them by quotients,
-- remainders and sums; these come to the definitions' bit parts.
-- Assumes nothing.
use mathlib.Core.Path.{◌≡◌, ap}
use Prim.Native.Nat.{ℕ, ◌+◌, ◌*◌, ◌/◌, ◌%◌, ◌^◌, ◌<◌}
use native.Mathlib.Nat.{div-one}
use native.Mathlib.Omega.{arith}
use lib.Dec.{lit≤, lit<}
use Rattle.word.specs.Word.{word_bits, complement}
use Rattle.word.proofs.Parts.{with_bits_lt}
use Rattle.machine_state.specs.State.{lac_bits, link, ac, with_link, with_ac}

-- AC stands at the right end of LAC
pub ac_is : (lac : ℕ) → ac lac ≡ lac % 2 ^ word_bits
ac_is lac = ap (λ (n : ℕ). n % 2 ^ word_bits) (div-one lac)

pub ac_lt : (lac : ℕ) → ac lac < 2 ^ word_bits
ac_lt lac = omega arith

-- LAC with another L or another AC
pub with_link_lt : {lac : ℕ} (x : ℕ) → lac < 2 ^ lac_bits → with_link lac x < 2 ^ lac_bits
with_link_lt x h = with_bits_lt lac_bits 0 0 (lit≤ tt) (lit< tt) x h

pub with_ac_lt : {lac : ℕ} (x : ℕ) → lac < 2 ^ lac_bits → with_ac lac x < 2 ^ lac_bits
with_ac_lt x h = with_bits_lt lac_bits 1 12 (lit≤ tt) (lit< tt) x h

-- a word written as AC, and 0
pub ac_written : (lac : ℕ) {x : ℕ} → x < 2 ^ word_bits → lac / 2 ^ word_bits * 2 ^ word_bits + x ≡ with_ac lac x
ac_written lac h = omega arith

pub ac_cleared : (lac : ℕ) → lac / 2 ^ word_bits * 2 ^ word_bits ≡ with_ac lac 0
ac_cleared lac = omega arith

-- L written as 0, and as its complement
pub link_cleared_lem : {lac : ℕ} → lac < 2 ^ lac_bits → lac % 2 ^ word_bits ≡ with_link lac 0
link_cleared_lem h = omega arith

pub link_complemented_lem : {lac : ℕ} → lac < 2 ^ lac_bits → (lac + 2 ^ word_bits) % 2 ^ lac_bits ≡ with_link lac (complement 1 (link lac))
link_complemented_lem h = omega arith

-- a number modulo 8,192
pub wrapped_lt : (x : ℕ) → x % 2 ^ lac_bits < 2 ^ lac_bits
wrapped_lt x = omega arith
