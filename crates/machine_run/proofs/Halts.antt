-- "A step that sets RUN to 0" is one whose instruction halts; every other leaves RUN, whatever its test is, as long as that leaves RUN.
-- Assumes nothing.
use mathlib.Core.Path.{◌≡◌, refl, sym, ◌∙◌}
use mathlib.Core.Bool.{Bool, true, false, false≢true, ◌&&◌}
use Prim.Native.Nat.{ℕ}
use lib.Dec.{eqb}
use Rattle.word.specs.Choice.{pick}
use Rattle.word.specs.Word.{next}
use Rattle.word.proofs.Choice.{pick_either}
use Rattle.machine_state.specs.State.{State, word, with_pc}
use Rattle.machine_state.specs.Instruction.{op}
use Rattle.machine_state.specs.Interrupt.{takes_interrupt, interrupt_test, ion, iof, input_output}
use Rattle.machine_operate.specs.Operate.{clears_run, operate}
use Rattle.machine_operate.proofs.Halts.{operate_run}
use Rattle.machine_reference.specs.Reference.{reference}
use Rattle.machine_reference.proofs.Keeps.{reference_run}
use Rattle.machine_run.specs.Step.{execute, halts, makes_test, step_with, step}
use Rattle.machine_run.proofs.Tested.{six_not_7}

input_output_run : (i : ℕ) (s : State) → (input_output i s).run ≡ s.run
unfolding input_output
input_output_run i s =
    let P : State → Type 0 = λ (x : State). x.run ≡ s.run in
    pick_either P (eqb i ion) refl (pick_either P (eqb i iof) refl refl)

-- the op, and RUN as each leaves it
run_by_op : (six seven clears : Bool) (n : ℕ) (a b c : State) → (six ≡ true → seven ≡ false) → a.run ≡ n → b.run ≡ pick clears 0 n → c.run ≡ n
    → (pick six a (pick seven b c)).run ≡ pick (seven && clears) 0 n
run_by_op true true clears n a b c q input operates refers = absurd (false≢true (sym (q refl)))
run_by_op true false clears n a b c q input operates refers = input
run_by_op false true clears n a b c q input operates refers = operates
run_by_op false false clears n a b c q input operates refers = refers

execute_run : (i last : ℕ) (s : State) → (execute i last s).run ≡ pick (halts i) 0 s.run
unfolding execute halts
execute_run i last s =
    run_by_op (eqb (op i) 6) (eqb (op i) 7) (clears_run i) s.run (input_output i s) (operate i s) (reference i last s) (six_not_7 i)
    (input_output_run i s) (operate_run i s) (reference_run i last s)

pub step_with_run : (test : State → State) → ((s : State) → (test s).run ≡ s.run) → (s : State) → (step_with test s).run ≡ pick (halts (word s.pc s)) 0 s.run
unfolding step_with
step_with_run test leaves s =
    let i : ℕ = word s.pc s in
    let t : State = execute i s.pc (with_pc (next s.pc) s) in
    pick_either (λ (x : State). x.run ≡ t.run) (makes_test i) (leaves t) refl ∙ execute_run i s.pc (with_pc (next s.pc) s)

-- an interrupt leaves it
interrupt_run : (s : State) → (interrupt_test s).run ≡ s.run
unfolding interrupt_test
interrupt_run s = pick_either (λ (x : State). x.run ≡ s.run) (takes_interrupt s) refl refl

pub halts_run : (s : State) → (step s).run ≡ pick (halts (word s.pc s)) 0 s.run
halts_run s = step_with_run interrupt_test interrupt_run s
