-- Document 02, One: "Only halting steps with INTERRUPT.ENABLE and INTERRUPT.REQUEST both 1 change." Without One such a step is followed by an interrupt,
-- and every other step is the same.
-- Assumes nothing.
use mathlib.Core.Path.{◌≡◌, refl, sym, ap, ◌∙◌}
use mathlib.Core.Bool.{Bool, true, false, false≢true, not, ◌&&◌}
use Prim.Native.Nat.{ℕ}
use lib.Dec.{eqb}
use Rattle.word.specs.Choice.{pick}
use Rattle.word.specs.Word.{next}
use Rattle.word.proofs.Choice.{case_false}
use Rattle.machine_state.specs.State.{State, word, with_pc, with_enable}
use Rattle.machine_state.specs.Instruction.{op}
use Rattle.machine_state.specs.Interrupt.{takes_interrupt, interrupted, interrupt_test, tested_if, ion, iof, input_output}
use Rattle.machine_operate.specs.Operate.{clears_run, operate}
use Rattle.machine_operate.proofs.Halts.{operate_takes}
use Rattle.machine_reference.specs.Reference.{reference}
use Rattle.machine_run.specs.Base.{base_step}
use Rattle.machine_run.specs.Step.{halts, step_with, step}
use Rattle.machine_run.proofs.Tested.{six_not_7, tested_by_op}

-- an interrupt after the halt, where both were 1
abbrev after : Bool → State → State
after both s = pick both (interrupted s) s

-- the tests by which an instruction is executed and tested in both, and what each op leaves
beside : (six enables seven clears both : Bool) (x y b c : State) → (six ≡ true → seven ≡ false) → takes_interrupt b ≡ both
    → pick six (pick enables x (interrupt_test y)) (interrupt_test (pick seven b c))
    ≡ after ((seven && clears) && both) (pick six (tested_if interrupt_test (not enables) (pick enables x y)) (pick seven (tested_if interrupt_test (not clears) b) (interrupt_test c)))
unfolding interrupt_test
beside true enables true clears both x y b c q e = absurd (false≢true (sym (q refl)))
beside true true false clears both x y b c q e = refl
beside true false false clears both x y b c q e = refl
beside false enables true true both x y b c q e = ap (λ (t : Bool). after t b) e
beside false enables true false both x y b c q e = refl
beside false enables false clears both x y b c q e = refl

pub base_step_lem : (s : State) → base_step s ≡ after (halts (word s.pc s) && takes_interrupt s) (step s)
unfolding base_step step_with halts input_output
base_step_lem s =
    let i : ℕ = word s.pc s in
    let t : State = with_pc (next s.pc) s in
    beside (eqb (op i) 6) (eqb i ion) (eqb (op i) 7) (clears_run i) (takes_interrupt s) (with_enable 1 t) (pick (eqb i iof) (with_enable 0 t) t)
    (operate i t) (reference i s.pc t) (six_not_7 i) (operate_takes i t)
    ∙ ap (after ((eqb (op i) 7 && clears_run i) && takes_interrupt s)) (sym (tested_by_op interrupt_test i s.pc t))

pub as_it_was : (s : State) → (halts (word s.pc s) && takes_interrupt s) ≡ false → step s ≡ base_step s
as_it_was s e = sym (base_step_lem s ∙ case_false (halts (word s.pc s) && takes_interrupt s) _ _ e)
