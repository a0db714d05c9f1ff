-- "a step keeps words and registers within their widths", where its test does.
-- Assumes nothing.
use Prim.Native.Nat.{ℕ}
use lib.Dec.{eqb}
use Rattle.word.proofs.Choice.{pick_either}
use Rattle.word.proofs.Next.{next_lt}
use Rattle.machine_state.specs.State.{State, Good, word}
use Rattle.machine_state.specs.Instruction.{op}
use Rattle.machine_state.specs.Interrupt.{interrupt_test}
use Rattle.machine_state.proofs.Keeps.{pc_good, interrupt_good, tested_good, input_output_good}
use Rattle.machine_operate.proofs.Keeps.{operate_good}
use Rattle.machine_reference.proofs.Keeps.{reference_good}
use Rattle.machine_run.specs.Step.{execute, makes_test, step_with, step}

execute_good : (i last : ℕ) {s : State} → Good s → Good (execute i last s)
unfolding execute
execute_good i last g =
    pick_either Good (eqb (op i) 6) (input_output_good i g) (pick_either Good (eqb (op i) 7) (operate_good i g) (reference_good i last g))

pub step_with_good : (test : State → State) → ((s : State) → Good s → Good (test s)) → {s : State} → Good s → Good (step_with test s)
unfolding step_with
step_with_good test kept {s} g =
    let i : ℕ = word s.pc s in
    tested_good test kept (makes_test i) (execute_good i s.pc (pc_good (next_lt s.pc) g))

pub step_good : {s : State} → Good s → Good (step s)
step_good g = step_with_good interrupt_test (λ s h. interrupt_good h) g
