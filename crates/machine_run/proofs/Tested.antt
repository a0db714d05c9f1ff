-- The interrupt test of a step by its op, whatever test it is: made by all of ops 0 to 5, by op 6 but for 6001, and by op 7 where it leaves RUN.
-- Assumes nothing.
use mathlib.Core.Path.{◌≡◌, refl, sym, ap}
use mathlib.Core.Bool.{Bool, true, false, false≢true, not, ◌&&◌, ◌||◌}
use Prim.Native.Nat.{ℕ}
use borrow.Author.Tests.{eqb-true}
use lib.Dec.{eqb}
use Rattle.word.specs.Choice.{pick}
use Rattle.machine_state.specs.State.{State}
use Rattle.machine_state.specs.Instruction.{op}
use Rattle.machine_state.specs.Interrupt.{tested_if, ion, input_output}
use Rattle.machine_operate.specs.Operate.{clears_run, operate}
use Rattle.machine_reference.specs.Reference.{reference}
use Rattle.machine_run.specs.Step.{execute, halts, makes_test}

-- 6001 is of op 6, which isn't op 7
ion_is_6 : (i : ℕ) → eqb i ion ≡ true → eqb (op i) 6 ≡ true
ion_is_6 i e = ap (λ (x : ℕ). eqb (op x) 6) (eqb-true i ion e)

pub six_not_7 : (i : ℕ) → eqb (op i) 6 ≡ true → eqb (op i) 7 ≡ false
six_not_7 i e = ap (λ (x : ℕ). eqb x 7) (eqb-true (op i) 6 e)

-- the tests by which an instruction is executed and tested, and what each op leaves
ways : (test : State → State) (six enables seven clears : Bool) (a b c : State) → (enables ≡ true → six ≡ true) → (six ≡ true → seven ≡ false)
    → tested_if test (not (enables || (seven && clears))) (pick six a (pick seven b c))
    ≡ pick six (tested_if test (not enables) a) (pick seven (tested_if test (not clears) b) (test c))
ways test true enables true clears a b c p q = absurd (false≢true (sym (q refl)))
ways test true true false clears a b c p q = refl
ways test true false false clears a b c p q = refl
ways test false true seven clears a b c p q = absurd (false≢true (p refl))
ways test false false true clears a b c p q = refl
ways test false false false clears a b c p q = refl

pub tested_by_op : (test : State → State) (i last : ℕ) (s : State)
    → tested_if test (makes_test i) (execute i last s)
    ≡ pick (eqb (op i) 6) (tested_if test (not (eqb i ion)) (input_output i s))
    (pick (eqb (op i) 7) (tested_if test (not (clears_run i)) (operate i s)) (test (reference i last s)))
unfolding execute halts makes_test
tested_by_op test i last s =
    ways test (eqb (op i) 6) (eqb i ion) (eqb (op i) 7) (clears_run i) (input_output i s) (operate i s) (reference i last s) (ion_is_6 i) (six_not_7 i)
