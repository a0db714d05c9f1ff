-- `machine_reference::operations::deposit_at` is its operation, then the interrupt test.
use mathlib.Core.Path.{sym, ap, ap₂, ◌∙◌}
use Prim.Native.Nat.{ℕ, ◌*◌, ◌/◌}
use Rattle.machine_state.specs.State.{stored, with_lac, with_memory}
use Rattle.machine_state.specs.Processor.{at}
use Rattle.machine_state.specs.Interrupt.{interrupt_test}
use mathlib.Core.List.{List}
use Rattle.machine_state.proofs.Lac.{ac_is, ac_cleared}
use Rattle.machine_reference.proofs.operations.deposit_at.Goals as goal

pub returns : goal.returns
returns c = let s = at c.args.p c.args.memory.now in
    c.interrupt_test.ensures
    ∙ ap (λ (m : List ℕ). interrupt_test (with_lac (s.lac / 4096 * 4096) (with_memory m s))) c.store.ensures
    ∙ ap₂ (λ (l a : ℕ). interrupt_test (with_lac l (stored c.args.e.number a s))) (ac_cleared s.lac) (sym (ac_is s.lac))
