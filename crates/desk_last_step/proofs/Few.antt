-- "at most three such lines": a step stores at most a word that it indexes by, the word that its op works on, and PC where it is interrupted.
-- Assumes nothing.
use mathlib.Core.Path.{sym, subst}
use mathlib.Core.List.{List}
use Prim.Native.Nat.{ℕ, ◌+◌, ◌≤◌}
use native.Mathlib.Omega.{arith}
use lib.Dec.{eqb}
use lib.ListN.{length, get_or, set}
use Rattle.word.specs.Choice.{on}
use Rattle.word.specs.Word.{next}
use Rattle.word.proofs.Choice.{pick_either}
use Rattle.devices.specs.declared.Devices.{Devices}
use Rattle.machine_state.specs.State.{State, word, with_pc, with_request, with_memory, ac}
use Rattle.machine_state.specs.Instruction.{op, flag, is_device}
use Rattle.machine_state.specs.Interrupt.{takes_interrupt, interrupt_test, ion, iof, input_output}
use Rattle.machine_operate.specs.Operate.{group1, group2, group3, operate}
use Rattle.machine_reference.specs.Address.{first_address, is_index, indexed, effective, after_indexing}
use Rattle.machine_reference.specs.Reference.{operation, reference}
use Rattle.machine_reference.proofs.Ops.{by_op}
use Rattle.machine_run.specs.Step.{execute, makes_test, step_with, step}
use Rattle.machine_console.specs.Instructions.{state_after, devices_after}
use Rattle.machine_console.specs.Console.{Console, line, line_test, device_step, console_step}
use Rattle.desk_last_step.specs.LastStep.{change_lines}
use Rattle.desk_last_step.specs.Sizes.{word_line_bytes, change_lines_bytes}
use Rattle.desk_last_step.proofs.Changes.{unchanged, stored_size}

-- the lines of the words that differ from a memory have at most n bytes
abbrev Few : List ℕ → ℕ → List ℕ → Type 0
Few before n memory = length (change_lines 0 before memory) ≤ n

abbrev FewIn : List ℕ → ℕ → State → Type 0
FewIn before n s = Few before n s.memory

module _ (before : List ℕ) (n : ℕ) where
  more : (memory : List ℕ) → Few before n memory → Few before (n + word_line_bytes) memory
  more memory h = omega arith

  stores : (memory : List ℕ) (a x : ℕ) → Few before n memory → Few before (n + word_line_bytes) (set memory a x)
  stores memory a x h = omega (arith, stored_size 0 before memory a x)

  interrupt_few : (s : State) → FewIn before n s → FewIn before (n + word_line_bytes) (interrupt_test s)
  unfolding interrupt_test
  interrupt_few s h =
      pick_either (FewIn before (n + word_line_bytes)) (takes_interrupt s) (stores s.memory 0 s.pc h) (more s.memory h)

  -- with devices the test refreshes INTERRUPT.REQUEST before it
  line_few : (c : Devices) (s : State) → FewIn before n s → FewIn before (n + word_line_bytes) (line_test c s)
  unfolding line_test
  line_few c s h = interrupt_few (with_request (line c) s) h

  indexed_few : (a : ℕ) (memory : List ℕ) → Few before n memory → Few before (n + word_line_bytes) (indexed a memory)
  unfolding indexed
  indexed_few a memory h =
      pick_either (Few before (n + word_line_bytes)) (is_index a) (stores memory a (next (get_or memory a 0)) h) (more memory h)

  indexing_few : (i last : ℕ) (memory : List ℕ) → Few before n memory → Few before (n + word_line_bytes) (after_indexing i last memory)
  unfolding after_indexing
  indexing_few i last memory h =
      pick_either (Few before (n + word_line_bytes)) (on (flag 3 i)) (indexed_few (first_address i last) memory h) (more memory h)

  operation_few : (k e : ℕ) (s : State) → FewIn before n s → FewIn before (n + word_line_bytes) (operation k e s)
  operation_few k e s h =
      let kept = more s.memory h in
      let P = FewIn before (n + word_line_bytes) in
      subst P (sym (by_op k e s))
      (pick_either P (eqb k 0) kept
      (pick_either P (eqb k 1) kept
      (pick_either P (eqb k 2) (stores s.memory e (next (word e s)) h)
      (pick_either P (eqb k 3) (stores s.memory e (ac s.lac) h) (pick_either P (eqb k 4) (stores s.memory e s.pc h) kept)))))

  operate_few : (i : ℕ) (s : State) → FewIn before n s → FewIn before n (operate i s)
  unfolding operate group1 group2 group3
  operate_few i s h =
      pick_either (FewIn before n) (on (flag 3 i)) (pick_either (FewIn before n) (on (flag 11 i)) h h) h

reference_few : (before : List ℕ) (n i last : ℕ) (s : State) → FewIn before n s → FewIn before (n + word_line_bytes + word_line_bytes) (reference i last s)
unfolding reference
reference_few before n i last s h =
    operation_few before (n + word_line_bytes) (op i) (effective i last s.memory) (with_memory (after_indexing i last s.memory) s)
    (indexing_few before n i last s.memory h)

input_output_few : (before : List ℕ) (n i : ℕ) (s : State) → FewIn before n s → FewIn before n (input_output i s)
unfolding input_output
input_output_few before n i s h = pick_either (FewIn before n) (eqb i ion) h (pick_either (FewIn before n) (eqb i iof) h h)

execute_few : (before : List ℕ) (n i last : ℕ) (s : State) → FewIn before n s → FewIn before (n + word_line_bytes + word_line_bytes) (execute i last s)
unfolding execute
execute_few before n i last s h =
    let P = FewIn before (n + word_line_bytes + word_line_bytes) in
    pick_either P (eqb (op i) 6) (omega (arith, input_output_few before n i s h))
    (pick_either P (eqb (op i) 7) (omega (arith, operate_few before n i s h)) (reference_few before n i last s h))

-- a step, by an interrupt test that stores at most one word
step_with_few : (test : State → State) → ((before : List ℕ) (n : ℕ) (s : State) → FewIn before n s → FewIn before (n + word_line_bytes) (test s))
    → (s : State) → length (change_lines 0 s.memory (step_with test s).memory) ≤ change_lines_bytes
unfolding step_with
step_with_few test few s =
    let i : ℕ = word s.pc s in
    let executed = execute_few s.memory 0 i s.pc (with_pc (next s.pc) s) (omega (arith, unchanged 0 s.memory)) in
    pick_either (FewIn s.memory change_lines_bytes) (makes_test i) (few s.memory (word_line_bytes + word_line_bytes) _ executed) (omega (arith, executed))

pub step_few : (s : State) → length (change_lines 0 s.memory (step s).memory) ≤ change_lines_bytes
step_few s = step_with_few interrupt_test interrupt_few s

-- with devices: a device's word stores nothing itself
device_few : (x : Console) → length (change_lines 0 x.state.memory (device_step x).state.memory) ≤ change_lines_bytes
unfolding device_step state_after
device_few x =
    let s = x.state in
    let i : ℕ = word s.pc s in
    omega (arith, line_few s.memory 0 (devices_after i s.lac x.devices) (state_after i x.devices (with_pc (next s.pc) s)) (omega (arith, unchanged 0 s.memory)))

pub console_few : (x : Console) → length (change_lines 0 x.state.memory (console_step x).state.memory) ≤ change_lines_bytes
unfolding console_step
console_few x =
    let s = x.state in
    pick_either (λ (y : Console). FewIn s.memory change_lines_bytes y.state) (is_device (word s.pc s)) (device_few x)
    (step_with_few (line_test x.devices) (λ before n t. line_few before n x.devices t) s)
