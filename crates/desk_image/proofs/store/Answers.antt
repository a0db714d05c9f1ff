-- `desk_image::store`: an address has twelve bits, and so is one of the memory.
use Rattle.std.proofs.Common.{ap, arith}
use Rattle.text_fields.specs.Fields.{field}
use Rattle.desk_image.specs.Input.{octal_word, stored}
use Rattle.desk_image.proofs.WordLine.{word_line, octal_word_lt}
use Rattle.desk_image.proofs.store.Goals as goal

pub octal_word-address-requires : goal.octal_word-address-requires
octal_word-address-requires c = rw c.field_of.ensures (word_line _ c.requires).address

pub octal_word-word-requires : goal.octal_word-word-requires
octal_word-word-requires c = rw c.field_of-2.ensures (word_line _ c.requires).word

pub bounds-memory-address : goal.bounds-memory-address
bounds-memory-address c = omega (
  arith,
  c.octal_word-address.ensures,
  ap octal_word c.field_of.ensures,
  octal_word_lt (field 0 c.args.line.now) (word_line c.args.line.now c.requires).address,
)

pub returns : goal.returns
unfolding stored
returns c = rw (c.octal_word-address.ensures, c.field_of.ensures, c.octal_word-word.ensures, c.field_of-2.ensures)
