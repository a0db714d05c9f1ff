-- `desk_last_step::on_page::put_change`: a word that is the same has no line.
use Rattle.std.proofs.Common.{rules, arith, refl}
use borrow.Author.Tests.{eq-eqb}
use Rattle.page.proofs.Writing.{written_none, written_of}
use Rattle.desk_last_step.proofs.Changes.{changed_size}
use Rattle.desk_last_step.proofs.on_page.put_change.Goals as goal

pub returns-then-before-after : goal.returns-then-before-after
returns-then-before-after c = rw (eq-eqb _ _ c.if-before-after.true) (written_none _ _)

pub put_word-requires : goal.put_word-requires
put_word-requires c =
    (search rules, simp c.new-draft.ensures (omega (arith, changed_size c.args.address c.args.before c.args.after c.if-before-after.false)))

pub copy_at-requires : goal.copy_at-requires
copy_at-requires c = (search rules, simp (c.put_word.ensures, c.new-draft.ensures) (omega (arith, c.requires)))

pub returns : goal.returns
returns c = written_of _ c.copy_at.ensures (simp (c.put_word.ensures, c.new-draft.ensures) refl)
