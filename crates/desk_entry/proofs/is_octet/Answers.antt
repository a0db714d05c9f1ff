-- `desk_entry::is_octet`: the three tests.
use Rattle.desk_entry.proofs.is_octet.Goals as goal

pub returns : goal.returns
returns c = rw (c.is_parted.ensures, c.is_narrow.ensures, c.digits_value-v.ensures, c.run_end-end.ensures)
