-- The ways through a step: the instruction i that was fetched, with PC increased to n, by its op, which its bits 0 to 3 tell.
-- Assumes nothing.
use mathlib.Core.Path.{◌≡◌, sym, ap, ◌∙◌}
use Prim.Native.Nat.{ℕ, ◌/◌, ◌%◌, ◌<◌}
use native.Mathlib.Omega.{arith}
use borrow.Author.Tests.{ne_eqb}
use lib.Dec.{eqb}
use mathlib.Core.Bool.{Bool, false, not}
use Rattle.word.specs.Choice.{pick}
use Rattle.word.specs.Word.{word_bits, bits, next}
use Rattle.word.proofs.Choice.{case_true, case_false}
use Rattle.word.proofs.Next.{next_lt}
use Rattle.machine_state.specs.State.{State, Good, word, with_pc}
use Rattle.machine_state.specs.Instruction.{op, flag}
use Rattle.machine_state.specs.Interrupt.{interrupt_test, tested_if, ion, input_output}
use Rattle.machine_state.proofs.Keeps.{pc_good}
use Rattle.machine_operate.specs.Operate.{clears_run, operate}
use Rattle.machine_operate.proofs.Halts.{first_runs_on}
use Rattle.machine_reference.specs.Reference.{reference}
use Rattle.machine_run.specs.Step.{execute, makes_test, step_with, step}
use Rattle.machine_run.proofs.Tested.{tested_by_op}

-- bits 0 to 3 are op and one bit more
pub op_of : (i n : ℕ) → bits word_bits 0 3 i ≡ n → op i ≡ n / 2
op_of i n key = omega (arith, key)

pub bit_3_of : (i n : ℕ) → bits word_bits 0 3 i ≡ n → flag 3 i ≡ n % 2
bit_3_of i n key = omega (arith, key)

-- what none of the arms of ops 6 and 7 takes
abbrev Passed : ℕ → Type 0
Passed v = (((Unit × (v ≡ 12 → ⊥)) × (v ≡ 13 → ⊥)) × (v ≡ 14 → ⊥)) × (v ≡ 15 → ⊥)

pub op_left : (i : ℕ) → Passed (bits word_bits 0 3 i) → op i < 6
op_left i none = omega (arith, none)

pub counted_good : (s : State) (n : ℕ) → n ≡ next s.pc → Good s → Good (with_pc n s)
counted_good s n increased g = rw increased (pc_good (next_lt s.pc) g)

module _ (s : State) (i n : ℕ) (fetched : i ≡ word s.pc s) (increased : n ≡ next s.pc) where
  -- the step by the op of its instruction, each with its own part of the interrupt test
  step_by_op : pick (eqb (op i) 6) (tested_if interrupt_test (not (eqb i ion)) (input_output i (with_pc n s)))
      (pick (eqb (op i) 7) (tested_if interrupt_test (not (clears_run i)) (operate i (with_pc n s))) (interrupt_test (reference i s.pc (with_pc n s))))
      ≡ step s
  unfolding step_with
  step_by_op =
      sym (tested_by_op interrupt_test i s.pc (with_pc n s))
      ∙ ap (λ (x : ℕ). tested_if interrupt_test (makes_test i) (execute i s.pc (with_pc x s))) increased
      ∙ ap (λ (x : ℕ). tested_if interrupt_test (makes_test x) (execute x s.pc (with_pc (next s.pc) s))) fetched

  pub op_6 : op i ≡ 6 → tested_if interrupt_test (not (eqb i ion)) (input_output i (with_pc n s)) ≡ step s
  op_6 six = sym (case_true (eqb (op i) 6) _ _ (ap (λ (x : ℕ). eqb x 6) six)) ∙ step_by_op

  not_op_6 : eqb (op i) 6 ≡ false
      → pick (eqb (op i) 7) (tested_if interrupt_test (not (clears_run i)) (operate i (with_pc n s))) (interrupt_test (reference i s.pc (with_pc n s))) ≡ step s
  not_op_6 six = sym (case_false (eqb (op i) 6) _ _ six) ∙ step_by_op

  pub op_7 : op i ≡ 7 → tested_if interrupt_test (not (clears_run i)) (operate i (with_pc n s)) ≡ step s
  op_7 seven = sym (case_true (eqb (op i) 7) _ _ (ap (λ (x : ℕ). eqb x 7) seven)) ∙ not_op_6 (ap (λ (x : ℕ). eqb x 6) seven)

  -- the first group leaves RUN
  pub op_7_first : op i ≡ 7 → flag 3 i ≡ 0 → interrupt_test (operate i (with_pc n s)) ≡ step s
  op_7_first seven three =
      ap (λ (t : Bool). tested_if interrupt_test (not t) (operate i (with_pc n s))) (sym (first_runs_on i three)) ∙ op_7 seven

  pub ops_0_to_5 : op i < 6 → interrupt_test (reference i s.pc (with_pc n s)) ≡ step s
  ops_0_to_5 low =
      sym (case_false (eqb (op i) 7) _ _ (ne_eqb (op i) 7 (λ e. omega (arith, e, low))))
      ∙ not_op_6 (ne_eqb (op i) 6 (λ e. omega (arith, e, low)))
