-- `machine_reference::operations::add_to` is its operation, then the interrupt test.
use mathlib.Core.Path.{ap, ◌∙◌}
use Prim.Native.Nat.{ℕ, ◌+◌, ◌%◌, ◌^◌}
use Rattle.machine_state.specs.State.{with_lac, lac_bits}
use Rattle.machine_state.specs.Processor.{at}
use Rattle.machine_state.specs.Interrupt.{interrupt_test}
use native.Mathlib.Omega.{arith}
use Rattle.machine_reference.proofs.operations.add_to.Goals as goal

pub overflow_add-q : goal.overflow_add-q
overflow_add-q c = omega (arith, c.requires.lac, c.requires.memory.words c.args.e.number, c.load-word.ensures)

pub returns : goal.returns
returns c = let s = at c.args.p c.args.memory.now in
    c.interrupt_test.ensures ∙ ap (λ (w : ℕ). interrupt_test (with_lac ((s.lac + w) % 2 ^ lac_bits) s)) c.load-word.ensures
