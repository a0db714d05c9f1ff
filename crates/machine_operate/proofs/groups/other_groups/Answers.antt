-- `machine_operate::groups::other_groups`: the code's test is the definition's.
use mathlib.Core.Path.{ap}
use mathlib.Core.Bool.{not}
use borrow.Author.Tests.{eq-eqb, ne_eqb}
use Rattle.word.specs.Choice.{on}
use Rattle.machine_operate.specs.Operate.{clears_run, operate}
use Rattle.machine_operate.proofs.groups.other_groups.Goals as goal

pub returns-then-i-ne0 : goal.returns-then-i-ne0
unfolding operate clears_run
returns-then-i-ne0 c = rw (ap on c.requires.other, ap not (ne_eqb _ _ c.if-i-ne0.true), operate, clears_run) c.third_group.ensures

pub returns-else-i-ne0 : goal.returns-else-i-ne0
unfolding operate clears_run
returns-else-i-ne0 c = rw (ap on c.requires.other, ap not (eq-eqb _ _ c.if-i-ne0.false), operate, clears_run) c.second_group.ensures
