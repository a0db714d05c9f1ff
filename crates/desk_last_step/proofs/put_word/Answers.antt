-- `desk_last_step::put_word`: a word that is the same has no line.
use Rattle.std.proofs.Common.{rules, arith, refl, append_assoc, length-append}
use borrow.Author.Tests.{ne_eqb}
use Rattle.page.proofs.Numbers.{octal_length}
use Rattle.desk_last_step.specs.LastStep.{word_line}
use Rattle.desk_last_step.proofs.Changes.{changed_size}
use Rattle.desk_last_step.proofs.put_word.Goals as goal

pub put_place-requires : goal.put_place-requires
put_place-requires g c = (search rules, omega (arith, changed_size c.args.address c.args.before c.args.after c.if-before-after.true, c.requires))

pub put_field-requires : goal.put_field-requires
put_field-requires g c =
    let line = changed_size c.args.address c.args.before c.args.after c.if-before-after.true in
    (search rules, simp (c.put_place.ensures, length-append) (omega (arith, octal_length 4 c.args.address, octal_length 4 c.args.before, line, c.requires)))

pub put_byte-requires : goal.put_byte-requires
put_byte-requires g c =
    let line = changed_size c.args.address c.args.before c.args.after c.if-before-after.true in (
      search rules,
      simp (c.put_field.ensures, c.put_place.ensures, length-append)
          (omega (arith, octal_length 4 c.args.address, octal_length 4 c.args.before, octal_length 4 c.args.after, line, c.requires)),
    )

pub returns-then-before-after : goal.returns-then-before-after
unfolding word_line
returns-then-before-after g c = simp (ne_eqb _ _ c.if-before-after.true, c.put_byte.ensures, c.put_field.ensures, c.put_place.ensures, append_assoc) refl
