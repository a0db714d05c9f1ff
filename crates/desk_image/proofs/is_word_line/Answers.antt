-- `desk_image::is_word_line`: two fields, of four octal digits each.
use Rattle.desk_image.specs.Input.{is_word_line}
use Rattle.desk_image.proofs.is_word_line.Goals as goal

pub returns : goal.returns
unfolding is_word_line
returns c = rw (c.has_fields.ensures, c.is_digits-address.ensures, c.field_of.ensures, c.is_digits-word.ensures, c.field_of-2.ensures)
