-- `text_targets::is_row`: the first field compared.
use Rattle.text_targets.proofs.is_row.Goals as goal

pub returns : goal.returns
returns c = rw (c.is_same.ensures, c.is_same-2.ensures, c.field_of-first.ensures)
