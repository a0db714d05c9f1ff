-- LAC stays within its 13 bits at each change that op 7 makes of it. The code makes the changes by sums and by parts of the instruction; these
-- come to the definition's tests.
-- Assumes nothing.
use mathlib.Core.Path.{◌≡◌, refl}
use Prim.Native.Nat.{ℕ, zero, suc, ◌+◌, ◌%◌, ◌^◌, ◌<◌}
use native.Mathlib.Omega.{arith}
use lib.Bits.{bit_or}
use lib.Dec.{lit<}
use Rattle.word.specs.Choice.{on, pick}
use Rattle.word.specs.Word.{word_bits, bits, complement}
use Rattle.word.proofs.Choice.{pick_either}
use Rattle.word.proofs.Rotation.{rotated_left_lt, rotated_right_lt}
use Rattle.machine_state.specs.State.{lac_bits, link, ac}
use Rattle.machine_state.specs.Instruction.{flag}
use Rattle.machine_state.proofs.Lac.{with_link_lt, with_ac_lt, wrapped_lt}
use Rattle.machine_operate.specs.Operate.{cleared, link_cleared, complemented, link_complemented, increased, places, left_rotated, right_rotated, rotated, changed, switched}

abbrev Narrow : ℕ → Type 0
Narrow lac = lac < 2 ^ lac_bits

pub cleared_lt : (i : ℕ) {lac : ℕ} → Narrow lac → Narrow (cleared i lac)
cleared_lt i h = pick_either Narrow (on (flag 4 i)) (with_ac_lt 0 h) h

pub link_cleared_lt : (i : ℕ) {lac : ℕ} → Narrow lac → Narrow (link_cleared i lac)
link_cleared_lt i h = pick_either Narrow (on (flag 5 i)) (with_link_lt 0 h) h

pub complemented_lt : (i : ℕ) {lac : ℕ} → Narrow lac → Narrow (complemented i lac)
complemented_lt i {lac} h = pick_either Narrow (on (flag 6 i)) (with_ac_lt (complement word_bits (ac lac)) h) h

pub link_complemented_lt : (i : ℕ) {lac : ℕ} → Narrow lac → Narrow (link_complemented i lac)
link_complemented_lt i {lac} h = pick_either Narrow (on (flag 7 i)) (with_link_lt (complement 1 (link lac)) h) h

-- the sum with bit 11 itself
bit_added : (b lac : ℕ) → b < 2 → Narrow lac → (lac + b) % 2 ^ lac_bits ≡ pick (on b) ((lac + 1) % 2 ^ lac_bits) lac
bit_added zero lac h n = omega arith
bit_added (suc zero) lac h n = refl
bit_added (suc (suc b)) lac h n = absurd (omega arith)

pub increased_is : (i : ℕ) {lac : ℕ} → Narrow lac → (lac + flag 11 i) % 2 ^ lac_bits ≡ increased i lac
increased_is i {lac} n = bit_added (flag 11 i) lac (omega arith) n

increased_lt : (i : ℕ) {lac : ℕ} → Narrow lac → Narrow (increased i lac)
increased_lt i {lac} h = pick_either Narrow (on (flag 11 i)) (wrapped_lt (lac + 1)) h

-- two instructions with the same bits 4 and 5 clear the same, and two with the same bits 6 and 7 complement the same: the code's arm is tied
-- to the instruction that has no other bit
pub cleared_alike : (i j lac : ℕ) {r : ℕ} → bits word_bits 4 5 i ≡ bits word_bits 4 5 j → r ≡ link_cleared j (cleared j lac)
    → r ≡ link_cleared i (cleared i lac)
cleared_alike i j lac same made =
    let four : flag 4 i ≡ flag 4 j = omega (arith, same) in
    let five : flag 5 i ≡ flag 5 j = omega (arith, same) in
    rw (four, five) made

pub complemented_alike : (i j lac : ℕ) {r : ℕ} → bits word_bits 6 7 i ≡ bits word_bits 6 7 j → r ≡ link_complemented j (complemented j lac)
    → r ≡ link_complemented i (complemented i lac)
complemented_alike i j lac same made =
    let six : flag 6 i ≡ flag 6 j = omega (arith, same) in
    let seven : flag 7 i ≡ flag 7 j = omega (arith, same) in
    rw (six, seven) made

pub changed_lt : (i : ℕ) {lac : ℕ} → Narrow lac → Narrow (changed i lac)
unfolding changed
changed_lt i h = increased_lt i (link_complemented_lt i (complemented_lt i (link_cleared_lt i (cleared_lt i h))))

left_rotated_lt : (i : ℕ) {lac : ℕ} → Narrow lac → Narrow (left_rotated i lac)
left_rotated_lt i h = pick_either Narrow (on (flag 9 i)) (rotated_left_lt lac_bits (lit< tt) (places i) h) h

right_rotated_lt : (i : ℕ) {lac : ℕ} → Narrow lac → Narrow (right_rotated i lac)
right_rotated_lt i h = pick_either Narrow (on (flag 8 i)) (rotated_right_lt lac_bits (lit< tt) (places i) h) h

pub rotated_lt : (i : ℕ) {lac : ℕ} → Narrow lac → Narrow (rotated i lac)
unfolding rotated
rotated_lt i h = right_rotated_lt i (left_rotated_lt i h)

pub switched_lt : (i switches : ℕ) {lac : ℕ} → Narrow lac → Narrow (switched i switches lac)
switched_lt i switches {lac} h = pick_either Narrow (on (flag 9 i)) (with_ac_lt (bit_or (ac lac) switches) h) h
