-- `machine_state::interrupt::input_output`: the code's tests are the definition's.
use borrow.Author.Tests.{eq-eqb, ne_eqb}
use Rattle.machine_state.specs.Interrupt.{input_output}
use Rattle.machine_state.proofs.interrupt.input_output.Goals as goal

pub returns-then-i-eq-ION : goal.returns-then-i-eq-ION
unfolding input_output
returns-then-i-eq-ION c = rw (eq-eqb _ _ c.if-i-eq-ION.true, input_output)

pub returns-then-i-eq-IOF : goal.returns-then-i-eq-IOF
unfolding input_output
returns-then-i-eq-IOF c = let first = ne_eqb _ _ c.if-i-eq-ION.false in
    rw (first, eq-eqb _ _ c.if-i-eq-IOF.true, input_output) c.interrupt_test.ensures

pub returns : goal.returns
unfolding input_output
returns c = let first = ne_eqb _ _ c.if-i-eq-ION.false in
    rw (first, ne_eqb _ _ c.if-i-eq-IOF.false, input_output) c.interrupt_test-2.ensures
