-- Ops 0 to 5 keep words and registers within their widths, and leave RUN.
-- Assumes nothing.
use mathlib.Core.Path.{◌≡◌, refl, sym, subst}
use Prim.Native.Nat.{ℕ, ◌+◌, ◌^◌, ◌<◌}
use lib.Bits.{bit_and}
use lib.Dec.{eqb}
use Rattle.word.specs.Word.{word_bits, next}
use Rattle.word.proofs.Choice.{pick_either}
use Rattle.word.proofs.Next.{next_lt}
use Rattle.machine_state.specs.State.{State, Good, word, with_memory, ac}
use Rattle.machine_state.specs.Instruction.{op}
use Rattle.machine_state.proofs.Lac.{ac_lt, with_ac_lt, wrapped_lt}
use Rattle.machine_state.proofs.Keeps.{lac_good, pc_good, memory_good, stored_good}
use Rattle.machine_reference.specs.Address.{effective, after_indexing}
use Rattle.machine_reference.specs.Reference.{operation, reference}
use Rattle.machine_reference.proofs.Ops.{by_op}
use Rattle.machine_reference.proofs.Addresses.{effective_lt, after_indexing_acceptable}

pub indexing_good : (i last : ℕ) {s : State} → Good s → Good (with_memory (after_indexing i last s.memory) s)
indexing_good i last g = memory_good (after_indexing_acceptable i last g.memory) g

operation_good : (n e : ℕ) {s : State} → e < 2 ^ word_bits → Good s → Good (operation n e s)
operation_good n e {s} h g =
    subst Good (sym (by_op n e s))
    (pick_either Good (eqb n 0) (lac_good (with_ac_lt (bit_and (ac s.lac) (word e s)) g.lac) g)
    (pick_either Good (eqb n 1) (lac_good (wrapped_lt (s.lac + word e s)) g)
    (pick_either Good (eqb n 2)
    (pc_good (pick_either (λ (x : ℕ). x < 2 ^ word_bits) (eqb (next (word e s)) 0) (next_lt s.pc) g.pc) (stored_good e (next_lt (word e s)) g))
    (pick_either Good (eqb n 3) (lac_good (with_ac_lt 0 g.lac) (stored_good e (ac_lt s.lac) g))
    (pick_either Good (eqb n 4) (pc_good (next_lt e) (stored_good e g.pc g)) (pc_good h g))))))

pub reference_good : (i last : ℕ) {s : State} → Good s → Good (reference i last s)
unfolding reference
reference_good i last {s} g = operation_good (op i) (effective i last s.memory) (effective_lt i last g.memory) (indexing_good i last g)

pub reference_run : (i last : ℕ) (s : State) → (reference i last s).run ≡ s.run
unfolding reference
reference_run i last s =
    let P : State → Type 0 = λ (x : State). x.run ≡ s.run in
    subst P (sym (by_op (op i) (effective i last s.memory) _))
    (pick_either P (eqb (op i) 0) refl
    (pick_either P (eqb (op i) 1) refl
    (pick_either P (eqb (op i) 2) refl (pick_either P (eqb (op i) 3) refl (pick_either P (eqb (op i) 4) refl refl)))))
