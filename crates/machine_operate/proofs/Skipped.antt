-- The second group by its parts: PC after the skip, LAC after the clear and the switches, RUN after the halt; and where neither bit 9 nor
-- bit 10 is set, the skip and the clear are all.
-- Assumes nothing.
use mathlib.Core.Path.{◌≡◌}
use Prim.Native.Nat.{ℕ, ◌^◌, ◌<◌}
use native.Mathlib.Omega.{arith}
use Rattle.word.specs.Choice.{on, pick}
use Rattle.word.specs.Word.{word_bits, bits, next}
use Rattle.word.proofs.Choice.{pick_either}
use Rattle.word.proofs.Next.{next_lt}
use Rattle.machine_state.specs.State.{State, with_lac, with_pc, with_run}
use Rattle.machine_state.specs.Instruction.{flag}
use Rattle.machine_operate.specs.Operate.{cleared, skips, switched, group2}

-- PC after the skip is a word
pub skip_lt : (i lac : ℕ) {pc : ℕ} → pc < 2 ^ word_bits → pick (skips i lac) (next pc) pc < 2 ^ word_bits
skip_lt i lac {pc} h = pick_either (λ (n : ℕ). n < 2 ^ word_bits) (skips i lac) (next_lt pc) h

module _ (i : ℕ) (s : State) (pc lac : ℕ) (skipping : pc ≡ pick (skips i s.lac) (next s.pc) s.pc) where
  -- with the switches and the halt
  pub skipped : (run : ℕ) → lac ≡ switched i s.switches (cleared i s.lac) → run ≡ pick (on (flag 10 i)) 0 s.run
      → with_pc pc (with_lac lac (with_run run s)) ≡ group2 i s
  unfolding group2
  skipped run switching halting = rw (skipping, switching, halting)

  -- without them, where neither bit asks for one
  pub skipped_only : bits word_bits 9 10 i ≡ 0 → lac ≡ cleared i s.lac → with_pc pc (with_lac lac s) ≡ group2 i s
  unfolding group2
  skipped_only none clearing =
      let nine : flag 9 i ≡ 0 = omega (arith, none) in
      let ten : flag 10 i ≡ 0 = omega (arith, none) in
      rw (skipping, clearing, nine, ten)
