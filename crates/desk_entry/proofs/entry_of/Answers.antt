-- `desk_entry::entry_of`: a line has two fields.
use mathlib.Core.Path.{sym, ◌∙◌}
use Rattle.desk_entry.specs.Lines.{entry}
use Rattle.desk_entry.proofs.entry_of.Goals as goal

pub returns-then-has_fields : goal.returns-then-has_fields
unfolding entry
returns-then-has_fields c = rw (sym c.has_fields.ensures ∙ c.if-has_fields.true, ← c.field_of.ensures, ← c.field_of-then-has_fields.ensures, entry) c.two_fields.ensures

pub returns-else-has_fields : goal.returns-else-has_fields
unfolding entry
returns-else-has_fields c = rw (sym c.has_fields.ensures ∙ c.if-has_fields.false, entry)
