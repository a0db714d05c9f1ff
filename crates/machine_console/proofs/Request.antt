-- No op reads or writes INTERRUPT.REQUEST: each does the same, whatever it is, and leaves it. Only the interrupt test reads it. So a step that makes a test does with the
-- devices' test what it does with the ordinary one where INTERRUPT.REQUEST is refreshed before it, and one that makes none does the same with every test.
-- Assumes nothing.
use mathlib.Core.Path.{◌≡◌, refl, sym, ap, ◌∙◌}
use mathlib.Core.Bool.{Bool, true, false}
use Prim.Native.Nat.{ℕ, zero, suc}
use lib.Dec.{eqb}
use Rattle.laws.proofs.Tests.{by_test}
use Rattle.word.specs.Choice.{on, pick}
use Rattle.word.specs.Word.{next}
use Rattle.word.proofs.Choice.{pick_either, case_true, case_false}
use Rattle.devices.specs.declared.Devices.{Devices}
use Rattle.machine_state.specs.State.{State, word, with_pc, with_request}
use Rattle.machine_state.specs.Instruction.{op, flag}
use Rattle.machine_state.specs.Interrupt.{takes_interrupt, interrupt_test, ion, iof, input_output}
use Rattle.machine_operate.specs.Operate.{group1, group2, group3, operate}
use Rattle.machine_reference.specs.Address.{effective}
use Rattle.machine_reference.specs.Reference.{operation, reference}
use Rattle.machine_run.specs.Step.{execute, makes_test, step_with, step}
use Rattle.machine_console.specs.Console.{line, line_test}

-- a choice each of whose values is f of something is f of the choice
through : {A B : Type 0} (f : A → B) (b : Bool) {x y : A} {u v : B} → u ≡ f x → v ≡ f y → pick b u v ≡ f (pick b x y)
through f true p q = p
through f false p q = q

operate_request : (r i : ℕ) (s : State) → operate i (with_request r s) ≡ with_request r (operate i s)
unfolding operate group1 group2 group3
operate_request r i s = through (with_request r) (on (flag 3 i)) (through (with_request r) (on (flag 11 i)) refl refl) refl

operation_request : (r n e : ℕ) (s : State) → operation n e (with_request r s) ≡ with_request r (operation n e s)
unfolding operation
operation_request r zero e s = refl
operation_request r (suc zero) e s = refl
operation_request r (suc (suc zero)) e s = refl
operation_request r (suc (suc (suc zero))) e s = refl
operation_request r (suc (suc (suc (suc zero)))) e s = refl
operation_request r (suc (suc (suc (suc (suc n))))) e s = refl

reference_request : (r i last : ℕ) (s : State) → reference i last (with_request r s) ≡ with_request r (reference i last s)
unfolding reference
reference_request r i last s = operation_request r (op i) (effective i last s.memory) _

input_output_request : (r i : ℕ) (s : State) → input_output i (with_request r s) ≡ with_request r (input_output i s)
unfolding input_output
input_output_request r i s = through (with_request r) (eqb i ion) refl (through (with_request r) (eqb i iof) refl refl)

execute_request : (r i last : ℕ) (s : State) → execute i last (with_request r s) ≡ with_request r (execute i last s)
unfolding execute
execute_request r i last s =
    through (with_request r) (eqb (op i) 6) (input_output_request r i s)
    (through (with_request r) (eqb (op i) 7) (operate_request r i s) (reference_request r i last s))

-- so a step leaves it
test_leaves : (s : State) → (interrupt_test s).request ≡ s.request
unfolding interrupt_test
test_leaves s = pick_either (λ (x : State). x.request ≡ s.request) (takes_interrupt s) refl refl

pub step_leaves : (s : State) → (step s).request ≡ s.request
unfolding step_with
step_leaves s =
    let i : ℕ = word s.pc s in
    let before : State = with_pc (next s.pc) s in
    let t : State = execute i s.pc before in
    pick_either (λ (x : State). x.request ≡ t.request) (makes_test i) (test_leaves t) refl
    ∙ ap (λ (x : State). x.request) (execute_request s.request i s.pc before)

-- ---- the two tests beside each other

module _ (s : State) where
  abbrev i : ℕ
  i = word s.pc s

  abbrev before : State
  before = with_pc (next s.pc) s

  tested_by : (test : State → State) → makes_test i ≡ true → step_with test s ≡ test (execute i s.pc before)
  unfolding step_with
  tested_by test e = case_true (makes_test i) (test (execute i s.pc before)) (execute i s.pc before) e

  pub tested_alike : (c : Devices) → makes_test i ≡ true → step_with (line_test c) s ≡ step (with_request (line c) s)
  unfolding line_test step_with
  tested_alike c e =
      tested_by (line_test c) e
      ∙ ap interrupt_test (sym (execute_request (line c) i s.pc before))
      ∙ sym (case_true (makes_test i) (interrupt_test (execute i s.pc (with_request (line c) before))) (execute i s.pc (with_request (line c) before)) e)

  pub untested_alike : (f g : State → State) → makes_test i ≡ false → step_with f s ≡ step_with g s
  unfolding step_with
  untested_alike f g e =
      let t : State = execute i s.pc before in
      case_false (makes_test i) (f t) t e ∙ sym (case_false (makes_test i) (g t) t e)

  -- where INTERRUPT.REQUEST is the line's already, the two tests are one
  pub same_test : (c : Devices) → s.request ≡ line c → step_with (line_test c) s ≡ step s
  same_test c e =
      by_test (makes_test i)
      (λ t. tested_alike c t ∙ ap (λ (r : ℕ). step (with_request r s)) (sym e))
      (λ t. untested_alike (line_test c) interrupt_test t)
