-- `machine_reference::operations::and_to` is its operation, then the interrupt test.
use mathlib.Core.Path.{sym, ap, ap₂, ◌∙◌}
use Prim.Native.Nat.{ℕ, ◌%◌, ◌^◌, ◌<◌}
use Rattle.word.specs.Word.{word_bits}
use Rattle.machine_state.specs.State.{with_lac, with_ac}
use Rattle.machine_state.specs.Processor.{at}
use Rattle.machine_state.specs.Interrupt.{interrupt_test}
use lib.Bits.{bit_and, and_le_l}
use native.Mathlib.Omega.{arith}
use Rattle.machine_state.proofs.Lac.{ac_is, ac_written}
use Rattle.machine_reference.proofs.operations.and_to.Goals as goal

pub overflow_add-q : goal.overflow_add-q
overflow_add-q c = let h = and_le_l (c.args.p.lac % 4096) c.load-word.result in
    omega (arith, c.requires.lac)

pub returns : goal.returns
returns c = let s = at c.args.p c.args.memory.now in
    let h = and_le_l (s.lac % 4096) c.load-word.result in
    let narrow : bit_and (s.lac % 4096) c.load-word.result < 2 ^ word_bits = omega (arith, h) in
    c.interrupt_test.ensures
    ∙ ap (λ (l : ℕ). interrupt_test (with_lac l s)) (ac_written s.lac narrow)
    ∙ ap₂ (λ (a w : ℕ). interrupt_test (with_lac (with_ac s.lac (bit_and a w)) s)) (sym (ac_is s.lac)) c.load-word.ensures
