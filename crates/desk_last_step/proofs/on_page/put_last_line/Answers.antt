-- `desk_last_step::on_page::put_last_line`: the draft is that of the instruction.
use Rattle.std.proofs.Common.{rules, arith, refl}
use Rattle.page.proofs.Writing.{written_of}
use Rattle.desk_last_step.proofs.Changes.{last_size}
use Rattle.desk_last_step.proofs.on_page.put_last_line.Goals as goal

pub put_instruction-requires : goal.put_instruction-requires
put_instruction-requires c = (search rules, simp c.new-draft.ensures (omega arith))

pub copy_at-requires : goal.copy_at-requires
copy_at-requires c =
    (search rules, simp (c.put_instruction.ensures, c.new-draft.ensures) (omega (arith, last_size c.args.devices c.args.address c.args.word, c.requires)))

pub returns-clause-text : goal.returns-clause-text
returns-clause-text c = written_of _ c.copy_at.ensures (simp (c.put_instruction.ensures, c.new-draft.ensures) refl)

pub returns-clause-room : goal.returns-clause-room
returns-clause-room c =
    rw c.copy_at.ensures.place (simp (c.put_instruction.ensures, c.new-draft.ensures) (omega (arith, last_size c.args.devices c.args.address c.args.word)))
