-- `machine_reference::operations::increment_and_skip`: the code's test is the definition's; the address is used twice and worked out once.
use mathlib.Core.Path.{ap, ◌∙◌}
use Prim.Native.Nat.{ℕ}
use Rattle.machine_state.specs.State.{stored, with_pc, with_memory}
use Rattle.machine_state.specs.Processor.{at}
use Rattle.machine_state.specs.Interrupt.{interrupt_test}
use mathlib.Core.List.{List}
use Rattle.word.specs.Word.{next}
use Rattle.machine_reference.proofs.Skips.{isz_stays, isz_skips}
use Rattle.machine_reference.proofs.operations.increment_and_skip.Goals as goal

pub returns-then-word-ne0 : goal.returns-then-word-ne0
returns-then-word-ne0 c = let s = at c.args.p c.args.memory.now in
    let increased = c.increment-word.ensures ∙ ap next c.load.ensures in
    c.interrupt_test.ensures
    ∙ ap (λ (m : List ℕ). interrupt_test (with_memory m s)) c.store.ensures
    ∙ ap interrupt_test (isz_stays c.args.e.number _ s increased c.if-word-ne0.true)

pub returns : goal.returns
returns c = let s = at c.args.p c.args.memory.now in
    let increased = c.increment-word.ensures ∙ ap next c.load.ensures in
    c.interrupt_test-2.ensures
    ∙ ap (λ (m : List ℕ). interrupt_test (with_pc c.increment.result (with_memory m s))) c.store.ensures
    ∙ ap (λ (n : ℕ). interrupt_test (with_pc n (stored c.args.e.number c.increment-word.result s))) c.increment.ensures
    ∙ ap interrupt_test (isz_skips c.args.e.number _ s increased c.if-word-ne0.false)
