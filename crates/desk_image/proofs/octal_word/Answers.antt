-- `desk_image::octal_word`: four octal digits have twelve bits.
use Rattle.std.proofs.Common.{arith}
use Rattle.characters.specs.declared.Class.TheVariants.{Octal}
use Rattle.desk_image.proofs.Digits.{digits_size}
use Rattle.desk_image.proofs.WordLine.{octal_word_lt}
use Rattle.desk_image.proofs.octal_word.Goals as goal

pub digits_value-requires : goal.digits_value-requires
digits_value-requires c = omega (arith, digits_size Octal 4 c.args.field.now c.requires)

pub overflow_cast-result : goal.overflow_cast-result
overflow_cast-result c = omega (arith, c.digits_value.ensures, octal_word_lt c.args.field.now c.requires)
