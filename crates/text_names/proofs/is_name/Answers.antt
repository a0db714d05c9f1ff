-- `text_names::is_name` is its definition, read off the calls.
use Rattle.text_names.specs.Names.{is_name}
use Rattle.text_names.proofs.is_name.Goals as goal

pub returns : goal.returns
unfolding is_name
returns c = rw (c.is_letter.ensures, c.byte.ensures, c.run_end-end.ensures)
