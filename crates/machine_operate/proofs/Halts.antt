-- What op 7 does to RUN, by which its interrupt test goes; and that it leaves INTERRUPT.ENABLE and INTERRUPT.REQUEST.
-- Assumes nothing.
use mathlib.Core.Path.{◌≡◌, refl, sym, ap}
use mathlib.Core.Bool.{Bool, true, false, not, ◌&&◌}
use Prim.Native.Nat.{ℕ}
use borrow.Author.Tests.{ne_eqb}
use Rattle.word.specs.Choice.{on, pick}
use Rattle.word.proofs.Choice.{pick_either, case_true, case_false}
use Rattle.machine_state.specs.State.{State}
use Rattle.machine_state.specs.Instruction.{flag}
use Rattle.machine_state.specs.Interrupt.{takes_interrupt, interrupt_test, tested_if}
use Rattle.machine_operate.specs.Operate.{group1, group2, group3, clears_run, operate}

-- bits 3, 11 and 10, and RUN as each group leaves it
by_group : (three eleven ten : Bool) (n : ℕ) (a b c : State) → a.run ≡ n → b.run ≡ pick ten 0 n → c.run ≡ n
    → (pick three (pick eleven a b) c).run ≡ pick (three && not eleven && ten) 0 n
by_group true true ten n a b c third second first = third
by_group true false ten n a b c third second first = second
by_group false eleven ten n a b c third second first = first

pub operate_run : (i : ℕ) (s : State) → (operate i s).run ≡ pick (clears_run i) 0 s.run
unfolding operate group1 group2 group3 clears_run
operate_run i s = by_group (on (flag 3 i)) (on (flag 11 i)) (on (flag 10 i)) s.run (group3 i s) (group2 i s) (group1 i s) refl refl refl

-- the first group leaves RUN
pub first_runs_on : (i : ℕ) → flag 3 i ≡ 0 → clears_run i ≡ false
unfolding clears_run
first_runs_on i three = ap (λ (x : ℕ). on x && not (on (flag 11 i)) && on (flag 10 i)) three

-- the second group's test, by bit 10
pub tested_on : (i : ℕ) (s : State) → flag 10 i ≡ 0 → interrupt_test s ≡ tested_if interrupt_test (not (on (flag 10 i))) s
tested_on i s ten = sym (case_true (not (on (flag 10 i))) (interrupt_test s) s (ap (λ (x : ℕ). not (on x)) ten))

pub untested_halt : (i : ℕ) (s : State) → (flag 10 i ≡ 0 → ⊥) → s ≡ tested_if interrupt_test (not (on (flag 10 i))) s
untested_halt i s ten = sym (case_false (not (on (flag 10 i))) (interrupt_test s) s (ap (λ (t : Bool). not (not t)) (ne_eqb (flag 10 i) 0 ten)))

pub operate_takes : (i : ℕ) (s : State) → takes_interrupt (operate i s) ≡ takes_interrupt s
unfolding operate group1 group2 group3
operate_takes i s =
    let P : State → Type 0 = λ (x : State). takes_interrupt x ≡ takes_interrupt s in
    pick_either P (on (flag 3 i)) (pick_either P (on (flag 11 i)) refl refl) refl
