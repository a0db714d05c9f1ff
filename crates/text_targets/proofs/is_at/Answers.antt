-- `text_targets::is_at`: the two fields compared.
use Rattle.text_targets.proofs.is_at.Goals as goal

pub returns : goal.returns
returns c = rw (c.is_same.ensures, c.field_of.ensures, c.is_same-2.ensures, c.field_of-2.ensures)
