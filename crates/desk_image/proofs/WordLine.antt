-- The line of a word: its fields are four octal digits each, so that it has nine bytes, and its address and its word have twelve bits.
-- Assumes nothing.
use Rattle.std.proofs.Common.{◌≡◌, ℕ, ◌+◌, ◌^◌, ◌<◌, true, false, ◌&&◌, eqb, ltb, List, [], length, sym, refl, ◌∙◌, arith, length-drop, ltb-true, eqb-true}
use mathlib.Core.Bool.{false≢true}
use Rattle.word.specs.Word.{word_bits}
use Rattle.characters.specs.Ascii.{tab}
use Rattle.characters.specs.Characters.{run}
use Rattle.characters.specs.declared.Class.TheVariants.{Octal}
use Rattle.text_fields.specs.Fields.{until, after, field, has_fields}
use Rattle.text_fields.proofs.Lines.{before_length}
use Rattle.laws.proofs.Joined.{and_left, and_right}
use Rattle.laws.proofs.Tests.{by_test}
use Rattle.desk_image.specs.Input.{is_octal_word, octal_word, is_word_line}
use Rattle.desk_image.specs.Scan.{line_bytes, words}
use Rattle.desk_image.proofs.Digits.{digits_size, octal_lt}
use Rattle.desk_image.proofs.ByLines.{Bounded}

-- two fields and the TAB between them
pub two_fields : (line : List ℕ) → has_fields 2 line ≡ true → length line ≡ length (field 0 line) + 1 + length (field 1 line)
unfolding has_fields field
two_fields line t =
    by_test (ltb 0 (until tab line) && ltb (until tab line) (length line))
    (λ e.
    let rest = after tab line in
    let inner : until tab line < length line = ltb-true _ _ (and_right (ltb 0 (until tab line)) (ltb (until tab line) (length line)) e) in
    let last : has_fields 2 line ≡ (ltb 0 (until tab rest) && eqb (until tab rest) (length rest)) = rw (e, has_fields) in
    let whole : until tab rest ≡ length rest = eqb-true _ _ (and_right (ltb 0 (until tab rest)) (eqb (until tab rest) (length rest)) (sym last ∙ t)) in
    omega (arith, before_length tab line, before_length tab rest, length-drop (until tab line + 1) line))
    (λ e.
    let none : has_fields 2 line ≡ false = rw (e, has_fields) in
    absurd (false≢true (sym none ∙ t)))

-- what is known of a fit line
pub record WordLine (line : List ℕ) : Type 0 where
  pub two : has_fields 2 line ≡ true
  pub address : is_octal_word (field 0 line) ≡ true
  pub word : is_octal_word (field 1 line) ≡ true

pub word_line : (line : List ℕ) → is_word_line line ≡ true → WordLine line
unfolding is_word_line
word_line line t =
    let two = has_fields 2 line in
    let address = is_octal_word (field 0 line) in
    let word = is_octal_word (field 1 line) in
    let front = and_left (two && address) word t in
    record { two = and_left two address front; address = and_right two address front; word = and_right (two && address) word t }

-- "four-digit octal": twelve bits
pub octal_word_lt : (field : List ℕ) → is_octal_word field ≡ true → octal_word field < 2 ^ word_bits
octal_word_lt field t = octal_lt 4 field t

-- the scanner need not keep more of a line
long_unfit : (line : List ℕ) → line_bytes < length line → is_word_line line ≡ false
long_unfit line h =
    by_test (is_word_line line)
    (λ t.
    let w = word_line line t in
    absurd (omega (arith, two_fields line w.two, digits_size Octal 4 (field 0 line) w.address, digits_size Octal 4 (field 1 line) w.word)))
    (λ t. t)

-- an empty line is none
empty_unfit : is_word_line [] ≡ false
unfolding is_word_line has_fields run
empty_unfit = refl

-- so the scanner's laws hold of an image's lines
pub bounded_words : Bounded words
bounded_words = record { empty_unfit = empty_unfit; long_unfit = long_unfit }
