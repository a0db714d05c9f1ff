-- What an and or an exclusive or of LAC with all its bits, with AC's or with L's leaves.
-- Assumes nothing.
use mathlib.Core.Path.{◌≡◌, sym, ap, ◌∙◌, subst}
use Prim.Native.Nat.{ℕ, ◌+◌, ◌*◌, ◌/◌, ◌%◌, ◌^◌, ◌<◌}
use native.Mathlib.Decide.{dec_lt}
use native.Mathlib.Omega.{arith}
use lib.Bits.{bit_and, bit_xor, and_mask, and_high, xor_add_and}
use Rattle.word.specs.Word.{word_bits, complement}
use Rattle.word.proofs.Complement.{complement_lt}
use Rattle.word.proofs.Parts.{join_right}
use Rattle.machine_state.specs.State.{lac_bits, link, ac, with_link, with_ac}
use Rattle.machine_state.proofs.Lac.{ac_is, with_ac_lt, ac_written, link_complemented_lem}

pub and_lac : {lac : ℕ} → lac < 2 ^ lac_bits → bit_and lac 0o17777 ≡ lac
and_lac {lac} h = let m : bit_and lac 0o17777 ≡ lac % 2 ^ 13 = and_mask lac 13 in omega (arith, m)

pub and_ac : (lac : ℕ) → bit_and lac 0o7777 ≡ lac % 2 ^ word_bits
and_ac lac = and_mask lac 12

pub and_link : {lac : ℕ} → lac < 2 ^ lac_bits → bit_and lac 0o10000 ≡ with_ac lac 0
and_link {lac} h = let m = and_high lac 1 12 in omega (arith, m)

pub xor_link : {lac : ℕ} → lac < 2 ^ lac_bits → bit_xor lac 0o10000 ≡ with_link lac (complement 1 (link lac))
xor_link {lac} h = let m = and_link h in let s = xor_add_and lac 0o10000 in omega (arith, m, s)

-- AC complemented by a sum
ac_complemented : (lac : ℕ) → lac / 2 ^ word_bits * 2 ^ word_bits + complement word_bits (lac % 2 ^ word_bits) ≡ with_ac lac (complement word_bits (ac lac))
ac_complemented lac =
    ac_written lac (complement_lt word_bits (lac % 2 ^ word_bits)) ∙ ap (λ (x : ℕ). with_ac lac (complement word_bits x)) (sym (ac_is lac))

pub xor_ac : (lac : ℕ) → bit_xor lac 0o7777 ≡ with_ac lac (complement word_bits (ac lac))
xor_ac lac =
    let m = and_ac lac in
    let s = xor_add_and lac 0o7777 in
    let low : bit_xor lac 0o7777 ≡ lac / 2 ^ word_bits * 2 ^ word_bits + complement word_bits (lac % 2 ^ word_bits) = omega (arith, m, s) in
    low ∙ ac_complemented lac

-- both: AC, then L of what that leaves
all : {lac : ℕ} → lac < 2 ^ lac_bits → bit_xor lac 0o17777 ≡ complement lac_bits lac
all {lac} h = let m = and_lac h in let s = xor_add_and lac 0o17777 in omega (arith, m, s)

abbrev summed : ℕ → ℕ
summed lac = lac / 2 ^ word_bits * 2 ^ word_bits + complement word_bits (lac % 2 ^ word_bits) + 2 ^ word_bits

-- where L is 1 the sum passes 8,192
over : {lac : ℕ} → lac < 2 ^ lac_bits → lac / 2 ^ word_bits ≡ 1 → complement lac_bits lac ≡ summed lac % 2 ^ lac_bits
over {lac} h one =
    let same : complement lac_bits lac ≡ complement word_bits (lac % 2 ^ word_bits) = omega (arith, h, one) in
    same ∙ sym (join_right lac_bits 1 (omega arith)) ∙ ap (λ (n : ℕ). n % 2 ^ lac_bits) (omega (arith, one))

by_sum : {lac : ℕ} → lac < 2 ^ lac_bits → complement lac_bits lac ≡ summed lac % 2 ^ lac_bits
by_sum {lac} h = elim (dec_lt lac (2 ^ word_bits)) [ yes low ↦ omega (arith, h, low) | no high ↦ over h (omega (arith, h, high)) ]

pub xor_lac : {lac x : ℕ} → lac < 2 ^ lac_bits → with_ac lac (complement word_bits (ac lac)) ≡ x → bit_xor lac 0o17777 ≡ with_link x (complement 1 (link x))
xor_lac {lac} h made =
    all h
    ∙ by_sum h
    ∙ ap (λ (n : ℕ). (n + 2 ^ word_bits) % 2 ^ lac_bits) (ac_complemented lac ∙ made)
    ∙ link_complemented_lem (subst (λ (n : ℕ). n < 2 ^ lac_bits) made (with_ac_lt (complement word_bits (ac lac)) h))
