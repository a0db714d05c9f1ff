-- `machine_operate::groups::third_group` clears, then makes the interrupt test.
use mathlib.Core.Path.{ap, ◌∙◌}
use Prim.Native.Nat.{ℕ}
use Rattle.machine_state.specs.State.{with_lac}
use Rattle.machine_state.specs.Processor.{at}
use Rattle.machine_state.specs.Interrupt.{interrupt_test}
use Rattle.machine_operate.specs.Operate.{group3}
use Rattle.machine_operate.proofs.groups.third_group.Goals as goal

pub returns : goal.returns
unfolding group3
returns c = c.interrupt_test.ensures
    ∙ ap (λ (x : ℕ). interrupt_test (with_lac x (at c.args.p c.args.memory.now))) c.clear.ensures
