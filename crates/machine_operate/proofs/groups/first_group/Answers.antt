-- `machine_operate::groups::first_group` changes, then increases and rotates, then makes the interrupt test.
use mathlib.Core.Path.{sym, ap, ◌∙◌}
use Prim.Native.Nat.{ℕ}
use Rattle.machine_state.specs.State.{with_lac}
use Rattle.machine_state.specs.Processor.{at}
use Rattle.machine_state.specs.Interrupt.{interrupt_test}
use Rattle.word.specs.Choice.{on}
use Rattle.word.proofs.Choice.{case_false}
use Rattle.machine_state.specs.Instruction.{flag}
use Rattle.machine_operate.specs.Operate.{increased, changed, rotated, group1, operate}
use Rattle.machine_operate.proofs.Changes.{cleared_lt, link_cleared_lt, complemented_lt, link_complemented_lt}
use Rattle.machine_operate.proofs.groups.first_group.Goals as goal

pub increase_and_rotate-requires : goal.increase_and_rotate-requires
increase_and_rotate-requires c = rw c.change.ensures (link_complemented_lt c.args.i (complemented_lt c.args.i (link_cleared_lt c.args.i (cleared_lt c.args.i c.requires.good.lac))))

pub returns : goal.returns
unfolding operate group1 changed
returns c = let s = at c.args.p c.args.memory.now in
    c.interrupt_test.ensures
    ∙ ap (λ (x : ℕ). interrupt_test (with_lac x s)) (c.increase_and_rotate.ensures ∙ ap (λ (x : ℕ). rotated c.args.i (increased c.args.i x)) c.change.ensures)
    ∙ ap interrupt_test (sym (case_false (on (flag 3 c.args.i)) _ (group1 c.args.i s) (ap on c.requires.first)))
