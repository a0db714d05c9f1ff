-- `desk_last_step::put_last_step`: the instruction, then the words; nothing where no step was made.
use Rattle.std.proofs.Common.{rules, arith, refl, append-nil, append_assoc, length-append}
use borrow.Author.Tests.{eq-eqb, ne_eqb}
use lib.ListN.{get_or}
use Rattle.desk_last_step.specs.LastStep.{last_step}
use Rattle.desk_last_step.proofs.Changes.{last_size}
use Rattle.desk_last_step.proofs.put_last_step.Goals as goal

pub put_words-requires : goal.put_words-requires
put_words-requires g c =
    let line = last_size c.args.devices c.args.pc (get_or c.args.before.now c.args.pc 0) in
    (search rules, (simp (c.put_instruction.ensures, length-append) (omega (arith, line, c.requires.room)), c.requires.whole))

pub returns-then-steps-ne0 : goal.returns-then-steps-ne0
unfolding last_step
returns-then-steps-ne0 g c = simp (ne_eqb _ _ c.if-steps-ne0.true, c.put_words.ensures, c.put_instruction.ensures, append_assoc) refl

pub returns-else-steps-ne0 : goal.returns-else-steps-ne0
unfolding last_step
returns-else-steps-ne0 g c = simp (eq-eqb _ _ c.if-steps-ne0.false, append-nil) refl
