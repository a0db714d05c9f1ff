-- `desk_entry::word_entry`: four octal digits have twelve bits.
use native.Mathlib.Omega.{arith}
use mathlib.Core.Path.{◌≡◌, sym, ◌∙◌}
use mathlib.Core.Bool.{true}
use Rattle.characters.specs.declared.Class.TheVariants.{Octal}
use Rattle.laws.proofs.Joined.{and_left, and_right}
use Rattle.desk_entry.specs.Lines.{word_entry}
use Rattle.desk_image.specs.Input.{is_octal_word}
use Rattle.desk_image.proofs.Digits.{digits_size}
use Rattle.desk_image.proofs.WordLine.{octal_word_lt}
use Rattle.desk_entry.proofs.word_entry.Goals as goal

pub digits_value-place-requires : goal.digits_value-place-requires
digits_value-place-requires c = omega (arith, digits_size Octal 4 c.args.address.now (sym c.is_digits.ensures ∙ and_left c.is_digits.result c.is_digits-2.result c.if-is_digits.true))

pub digits_value-value-requires : goal.digits_value-value-requires
digits_value-value-requires c = omega (arith, digits_size Octal 4 c.args.word.now (sym c.is_digits-2.ensures ∙ and_right c.is_digits.result c.is_digits-2.result c.if-is_digits.true))

pub overflow_cast-result : goal.overflow_cast-result
overflow_cast-result c = omega (arith, c.digits_value-value.ensures, octal_word_lt c.args.word.now (sym c.is_digits-2.ensures ∙ and_right c.is_digits.result c.is_digits-2.result c.if-is_digits.true))

pub returns-then-is_digits : goal.returns-then-is_digits
unfolding word_entry
returns-then-is_digits c =
    let address : is_octal_word c.args.address.now ≡ true = sym c.is_digits.ensures ∙ and_left c.is_digits.result c.is_digits-2.result c.if-is_digits.true in
    let word : is_octal_word c.args.word.now ≡ true = sym c.is_digits-2.ensures ∙ and_right c.is_digits.result c.is_digits-2.result c.if-is_digits.true in
    rw (address, word, c.digits_value-place.ensures, c.digits_value-value.ensures, word_entry)

pub returns-else-is_digits : goal.returns-else-is_digits
unfolding word_entry
returns-else-is_digits c = let t = rw (c.is_digits.ensures, c.is_digits-2.ensures) at c.if-is_digits.false in
    rw (t, word_entry)
