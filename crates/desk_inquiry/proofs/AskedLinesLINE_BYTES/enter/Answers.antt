-- The `enter` of `desk_inquiry::Asked`: the bytes of an input stand in the line's second field.
use Rattle.std.proofs.Common.{sym, ◌∙◌, subst}
use Rattle.desk_inquiry.specs.Scan.{Bears}
use Rattle.desk_inquiry.proofs.Bears.{line_bears}
use Rattle.desk_inquiry.proofs.AskedLinesLINE_BYTES.enter.Goals as goal

pub enter_entry-requires : goal.enter_entry-requires
enter_entry-requires c =
    subst (Bears c.in-Some.e) (sym c.field_of.ensures) (line_bears c.args.line.now c.in-Some.e (sym c.entry_of.ensures ∙ c.in-Some.is))
