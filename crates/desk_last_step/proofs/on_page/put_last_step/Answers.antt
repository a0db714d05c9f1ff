-- `desk_last_step::on_page::put_last_step`: the instruction, then the words; nothing where no step was made.
use Rattle.std.proofs.Common.{arith}
use borrow.Author.Tests.{eq-eqb, ne_eqb}
use Rattle.page.proofs.Writing.{written_none, written_then}
use Rattle.desk_last_step.specs.LastStep.{last_step}
use Rattle.desk_last_step.proofs.on_page.put_last_step.Goals as goal

pub returns-then-steps-eq0 : goal.returns-then-steps-eq0
unfolding last_step
returns-then-steps-eq0 c = rw (eq-eqb _ _ c.if-steps-eq0.true) (written_none _ _)

pub put_changes-requires-clause-room : goal.put_changes-requires-clause-room
put_changes-requires-clause-room c = omega (arith, c.put_last_line-end.ensures.room, c.put_last_line-end.auto.page, c.requires.room)

pub returns : goal.returns
unfolding last_step
returns c = rw (ne_eqb _ _ c.if-steps-eq0.false) (written_then _ _ c.put_last_line-end.ensures.text c.put_changes.ensures)
