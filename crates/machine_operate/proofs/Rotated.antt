-- The rotation of op 7 by the number that bits 8 to 10 make: the code's `match` on it is the definition's three tests.
-- Assumes nothing.
use mathlib.Core.Path.{◌≡◌, refl, ap, ◌∙◌}
use mathlib.Core.Bool.{Bool, true, false}
use Prim.Native.Nat.{ℕ, ◌^◌, ◌<◌}
use native.Mathlib.Omega.{arith}
use lib.Dec.{lit<}
use Rattle.word.specs.Choice.{on, pick}
use Rattle.word.specs.Word.{word_bits, bits, rotated_left, rotated_right}
use Rattle.word.proofs.Rotation.{left_then_right}
use Rattle.machine_state.specs.State.{lac_bits}
use Rattle.machine_state.specs.Instruction.{flag}
use Rattle.machine_operate.specs.Operate.{places, left_rotated, right_rotated, rotated}

-- left where the second test holds, then right where the first does, by n places
abbrev both_ways : Bool → Bool → ℕ → ℕ → ℕ
both_ways right left n lac =
    pick right (rotated_right lac_bits n (pick left (rotated_left lac_bits n lac) lac)) (pick left (rotated_left lac_bits n lac) lac)

-- two instructions with the same bits 8 to 10 ask for the same: the code's arm is tied to the instruction that has no other bit
pub rotated_alike : (i j lac : ℕ) {r : ℕ} → bits word_bits 8 10 i ≡ bits word_bits 8 10 j → r ≡ right_rotated j (left_rotated j lac) → r ≡ rotated i lac
unfolding rotated
rotated_alike i j lac same made =
    let eight : flag 8 i ≡ flag 8 j = omega (arith, same) in
    let nine : flag 9 i ≡ flag 9 j = omega (arith, same) in
    let ten : flag 10 i ≡ flag 10 j = omega (arith, same) in
    rw (eight, nine, ten) made

-- both ways or neither is no change
back : (b : Bool) (n : ℕ) {lac : ℕ} → lac < 2 ^ lac_bits → both_ways b b n lac ≡ lac
back true n h = left_then_right lac_bits (lit< tt) n h
back false n h = refl

pub unrotated : (i : ℕ) {lac : ℕ} → lac < 2 ^ lac_bits → flag 8 i ≡ flag 9 i → rotated i lac ≡ lac
unfolding rotated
unrotated i {lac} h same =
    ap (λ (b : ℕ). both_ways (on b) (on (flag 9 i)) (places i) lac) same ∙ back (on (flag 9 i)) (places i) h
