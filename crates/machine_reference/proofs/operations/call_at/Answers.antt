-- `machine_reference::operations::call_at` is its operation, then the interrupt test.
use mathlib.Core.Path.{ap, ◌∙◌}
use Prim.Native.Nat.{ℕ}
use Rattle.machine_state.specs.State.{stored, with_pc, with_memory}
use Rattle.machine_state.specs.Processor.{at}
use Rattle.machine_state.specs.Interrupt.{interrupt_test}
use mathlib.Core.List.{List}
use Rattle.machine_reference.proofs.operations.call_at.Goals as goal

pub returns : goal.returns
returns c = let s = at c.args.p c.args.memory.now in
    c.interrupt_test.ensures
    ∙ ap (λ (m : List ℕ). interrupt_test (with_pc c.increment.result (with_memory m s))) c.store.ensures
    ∙ ap (λ (n : ℕ). interrupt_test (with_pc n (stored c.args.e.number s.pc s))) c.increment.ensures
