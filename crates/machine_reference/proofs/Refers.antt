-- An instruction of ops 0 to 5 whose address is worked out: its operation has the address and the memory that this left. The code's arms
-- go by bits 0 to 3.
-- Assumes nothing.
use mathlib.Core.List.{List}
use mathlib.Core.Path.{◌≡◌, refl, sym, ap, ◌∙◌}
use Prim.Native.Nat.{ℕ, zero, suc, ◌+◌, ◌*◌, ◌%◌, ◌≤◌, ◌<◌}
use native.Mathlib.Omega.{arith}
use Rattle.word.specs.Choice.{on}
use Rattle.word.specs.Word.{word_bits, bits}
use Rattle.machine_state.specs.declared.Processor.{Processor}
use Rattle.machine_state.specs.State.{State, Good}
use Rattle.machine_state.specs.Processor.{at}
use Rattle.machine_state.specs.Instruction.{op, ib}
use Rattle.machine_state.specs.Interrupt.{interrupt_test}
use Rattle.machine_reference.specs.Address.{first_address, after_indexing}
use Rattle.machine_reference.specs.Addressed.{Addressed}
use Rattle.machine_reference.specs.Reference.{and_to, add_to, increment_and_skip, deposit, call_at, jump_to, operation, reference}
use Rattle.machine_reference.proofs.Addresses.{direct}
use Rattle.machine_reference.proofs.Keeps.{indexing_good}

-- bits 0 to 3 are op and ib
even_op : (i n : ℕ) → bits word_bits 0 3 i ≡ n * 2 → op i ≡ n
even_op i n key = omega (arith, key)

even_ib : (i n : ℕ) → bits word_bits 0 3 i ≡ n * 2 → ib i ≡ 0
even_ib i n key = omega (arith, key)

odd_op : (i n : ℕ) → bits word_bits 0 3 i ≡ n * 2 + 1 → op i ≡ n
odd_op i n key = omega (arith, key)

odd_ib : (i : ℕ) → ib i ≡ 1 → bits word_bits 0 3 i % 2 ≡ 1
odd_ib i odd = omega (arith, odd)

ib_odd : (i b : ℕ) → bits word_bits 0 3 i % 2 ≡ suc b → ib i ≡ 1
ib_odd i b same = omega (arith, same)

-- v is none of the first n numbers that are b modulo 2
abbrev Passed : ℕ → ℕ → ℕ → Type 0
Passed b zero v = Unit
Passed b (suc n) v = Passed b n v × (v ≡ n * 2 + b → ⊥)

passed : (b n v : ℕ) → Passed b n v → v % 2 ≡ b → n * 2 ≤ v
passed b zero v p same = omega arith
passed b (suc n) v p same = let h = passed b n v p.0 same in let other = p.1 in omega (arith, h, other, same)

past : (i : ℕ) → op i < 6 → 6 * 2 ≤ bits word_bits 0 3 i → ⊥
past i h most = omega (arith, most, h)

-- ops 0 to 5 with ib = 1 are passed by every arm for ib = 0, and by no arm more
pub ib_left : (i : ℕ) → op i < 6 → Passed 0 6 (bits word_bits 0 3 i) → ib i ≡ 1
ib_left i h p = go (bits word_bits 0 3 i % 2) refl
  where
    go : (b : ℕ) → bits word_bits 0 3 i % 2 ≡ b → ib i ≡ 1
    go zero same = absurd (past i h (passed 0 6 (bits word_bits 0 3 i) p same))
    go (suc b) same = ib_odd i b same

pub none_left : (i : ℕ) → op i < 6 → ib i ≡ 1 → Passed 1 6 (bits word_bits 0 3 i) → ⊥
none_left i h odd p = past i h (passed 1 6 (bits word_bits 0 3 i) p (odd_ib i odd))

module _ {i last e : ℕ} {before after : List ℕ} (p : Processor) (found : Addressed i last before after e) where
  -- what op n leaves is what the instruction leaves
  leaves : (n : ℕ) {left : State} → op i ≡ n → left ≡ interrupt_test (operation n e (at p after)) → left ≡ interrupt_test (reference i last (at p before))
  unfolding reference
  leaves n same eq =
      eq
      ∙ ap (λ (k : ℕ). interrupt_test (operation k e (at p after))) (sym same)
      ∙ ap (λ (m : List ℕ). interrupt_test (operation (op i) e (at p m))) found.memory
      ∙ ap (λ (a : ℕ). interrupt_test (operation (op i) a (at p (after_indexing i last before)))) found.address

  pub performed : (n : ℕ) {left : State} → bits word_bits 0 3 i ≡ n * 2 + 1 → left ≡ interrupt_test (operation n e (at p after))
      → left ≡ interrupt_test (reference i last (at p before))
  performed n key eq = leaves n (odd_op i n key) eq

-- the same of an instruction with ib = 0, whose address is the first one
pub first_performed : (i last : ℕ) {first : ℕ} (p : Processor) (memory : List ℕ) → first ≡ first_address i last → (n : ℕ) {left : State}
    → bits word_bits 0 3 i ≡ n * 2 → left ≡ interrupt_test (operation n first (at p memory)) → left ≡ interrupt_test (reference i last (at p memory))
first_performed i last {first} p memory found n key eq =
    leaves p (direct i last first memory found (ap on (even_ib i n key))) n (even_op i n key) eq

-- op by op, as the arms for ib = 0 have it
module _ (i last first : ℕ) (p : Processor) (memory : List ℕ) (found : first ≡ first_address i last) {left : State} where
  pub first_and_to : bits word_bits 0 3 i ≡ 0 → left ≡ interrupt_test (and_to first (at p memory)) → left ≡ interrupt_test (reference i last (at p memory))
  unfolding operation
  first_and_to key eq = first_performed i last p memory found 0 key eq

  pub first_add_to : bits word_bits 0 3 i ≡ 2 → left ≡ interrupt_test (add_to first (at p memory)) → left ≡ interrupt_test (reference i last (at p memory))
  unfolding operation
  first_add_to key eq = first_performed i last p memory found 1 key eq

  pub first_increment_and_skip : bits word_bits 0 3 i ≡ 4 → left ≡ interrupt_test (increment_and_skip first (at p memory)) → left ≡ interrupt_test (reference i last (at p memory))
  unfolding operation
  first_increment_and_skip key eq = first_performed i last p memory found 2 key eq

  pub first_deposit : bits word_bits 0 3 i ≡ 6 → left ≡ interrupt_test (deposit first (at p memory)) → left ≡ interrupt_test (reference i last (at p memory))
  unfolding operation
  first_deposit key eq = first_performed i last p memory found 3 key eq

  pub first_call_at : bits word_bits 0 3 i ≡ 8 → left ≡ interrupt_test (call_at first (at p memory)) → left ≡ interrupt_test (reference i last (at p memory))
  unfolding operation
  first_call_at key eq = first_performed i last p memory found 4 key eq

  pub first_jump_to : bits word_bits 0 3 i ≡ 10 → left ≡ interrupt_test (jump_to first (at p memory)) → left ≡ interrupt_test (reference i last (at p memory))
  unfolding operation
  first_jump_to key eq = first_performed i last p memory found 5 key eq

-- and as those for ib = 1
module _ (i last e : ℕ) (before after : List ℕ) (p : Processor) (found : Addressed i last before after e) {left : State} where
  pub found_and_to : bits word_bits 0 3 i ≡ 1 → left ≡ interrupt_test (and_to e (at p after)) → left ≡ interrupt_test (reference i last (at p before))
  unfolding operation
  found_and_to key eq = performed p found 0 key eq

  pub found_add_to : bits word_bits 0 3 i ≡ 3 → left ≡ interrupt_test (add_to e (at p after)) → left ≡ interrupt_test (reference i last (at p before))
  unfolding operation
  found_add_to key eq = performed p found 1 key eq

  pub found_increment_and_skip : bits word_bits 0 3 i ≡ 5 → left ≡ interrupt_test (increment_and_skip e (at p after)) → left ≡ interrupt_test (reference i last (at p before))
  unfolding operation
  found_increment_and_skip key eq = performed p found 2 key eq

  pub found_deposit : bits word_bits 0 3 i ≡ 7 → left ≡ interrupt_test (deposit e (at p after)) → left ≡ interrupt_test (reference i last (at p before))
  unfolding operation
  found_deposit key eq = performed p found 3 key eq

  pub found_call_at : bits word_bits 0 3 i ≡ 9 → left ≡ interrupt_test (call_at e (at p after)) → left ≡ interrupt_test (reference i last (at p before))
  unfolding operation
  found_call_at key eq = performed p found 4 key eq

  pub found_jump_to : bits word_bits 0 3 i ≡ 11 → left ≡ interrupt_test (jump_to e (at p after)) → left ≡ interrupt_test (reference i last (at p before))
  unfolding operation
  found_jump_to key eq = performed p found 5 key eq

-- whose operation may begin
pub ready : (i last : ℕ) (p : Processor) (before after : List ℕ) (e : ℕ) → Addressed i last before after e → Good (at p before) → Good (at p after)
ready i last p before after e found g = rw found.memory (indexing_good i last g)
