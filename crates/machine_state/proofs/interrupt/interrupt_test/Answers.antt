-- `machine_state::interrupt::interrupt_test`: the code's test is the definition's.
use mathlib.Core.Path.{sym, ap, ◌∙◌}
use mathlib.Core.List.{List}
use Prim.Native.Nat.{ℕ}
use Rattle.word.proofs.Choice.{case_true, case_false}
use Rattle.machine_state.specs.State.{with_pc, with_enable, with_memory}
use Rattle.machine_state.specs.Processor.{at}
use Rattle.machine_state.specs.Interrupt.{takes_interrupt, interrupted, interrupt_test}
use Rattle.machine_state.proofs.Served.{served, unserved}
use Rattle.machine_state.proofs.interrupt.interrupt_test.Goals as goal

pub returns-then-p-ne0 : goal.returns-then-p-ne0
unfolding interrupt_test
returns-then-p-ne0 c = let s = at c.args.p c.args.memory.now in
    ap (λ (m : List ℕ). with_enable 0 (with_pc 1 (with_memory m s))) c.store.ensures
    ∙ sym (case_true (takes_interrupt s) (interrupted s) s (served c.requires.enable c.requires.request c.if-p-ne0.true))

pub returns-else-p-ne0 : goal.returns-else-p-ne0
unfolding interrupt_test
returns-else-p-ne0 c = let s = at c.args.p c.args.memory.now in
    sym (case_false (takes_interrupt s) (interrupted s) s (unserved c.requires.enable c.requires.request c.if-p-ne0.false))
