-- `machine_operate::groups::second_group`: the skip and the clear, then the switches and the halt where they are asked for, then the interrupt test, unless it halted.
use mathlib.Core.Path.{ap, ◌∙◌}
use Rattle.machine_state.specs.Interrupt.{interrupt_test}
use Rattle.machine_state.specs.Processor.{at}
use Rattle.machine_operate.specs.Operate.{switched, group2}
use native.Mathlib.Omega.{arith}
use Rattle.machine_operate.proofs.Changes.{cleared_lt}
use Rattle.machine_operate.proofs.Skipped.{skip_lt, skipped, skipped_only}
use Rattle.machine_operate.proofs.Halts.{tested_on, untested_halt}
use Rattle.machine_operate.proofs.groups.second_group.Goals as goal

pub interrupt_test-requires : goal.interrupt_test-requires
interrupt_test-requires c = let pc = skip_lt c.args.i c.args.p.lac c.requires.pc in
    record { first_word = omega (arith, c.requires.memory.size); pc = rw c.skip.ensures pc; enable = c.requires.enable; request = c.requires.request }

pub returns-then-i-eq0 : goal.returns-then-i-eq0
returns-then-i-eq0 c = c.interrupt_test.ensures
    ∙ ap interrupt_test (skipped_only c.args.i (at c.args.p c.args.memory.now) _ _ c.skip.ensures c.if-i-eq0.true c.clear.ensures)
    ∙ tested_on c.args.i (group2 c.args.i (at c.args.p c.args.memory.now)) (omega (arith, c.if-i-eq0.true))

pub or_switches-requires : goal.or_switches-requires
or_switches-requires c = record { lac = rw c.clear-2.ensures (cleared_lt c.args.i c.requires.lac); switches = c.requires.switches }

pub returns-then-i-ne0 : goal.returns-then-i-ne0
returns-then-i-ne0 c = skipped c.args.i (at c.args.p c.args.memory.now) _ _ c.skip.ensures _
    (c.or_switches.ensures ∙ ap (switched c.args.i c.args.p.switches) c.clear-2.ensures)
    c.halt.ensures
    ∙ untested_halt c.args.i (group2 c.args.i (at c.args.p c.args.memory.now)) (λ e. c.if-i-ne0.true (omega (arith, e)))

pub interrupt_test-requires-2 : goal.interrupt_test-requires-2
interrupt_test-requires-2 c = let pc = skip_lt c.args.i c.args.p.lac c.requires.pc in
    record { first_word = omega (arith, c.requires.memory.size); pc = rw c.skip.ensures pc; enable = c.requires.enable; request = c.requires.request }

pub returns : goal.returns
returns c = c.interrupt_test-2.ensures
    ∙ ap interrupt_test
    (skipped c.args.i (at c.args.p c.args.memory.now) _ _ c.skip.ensures _
    (c.or_switches.ensures ∙ ap (switched c.args.i c.args.p.switches) c.clear-2.ensures)
    c.halt.ensures)
    ∙ tested_on c.args.i (group2 c.args.i (at c.args.p c.args.memory.now)) (omega (arith, c.if-i-ne0.false))
