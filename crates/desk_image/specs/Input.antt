-- What the listing program reads: "lines of four-digit octal address, TAB, four-digit octal word"; and how both programs read lines. A line is read without its LF.
-- Assumes nothing.
use Rattle.std.specs.Prelude.{ℕ, suc, Bool, true, false, ◌&&◌, List, [], ◌∷◌, length, replicate, ◌==◌, slice_set, Option, Some, None}
use Rattle.state.specs.Limits.{memory_words}
use Rattle.characters.specs.Characters.{run}
use Rattle.characters.specs.declared.Class.{Class}
use Rattle.characters.specs.declared.Class.TheVariants.{Octal}
use Rattle.text_fields.specs.Fields.{Line, lines, field, has_fields}
use Rattle.text_constants.specs.Constants.{number_at}

-- whether a field is n digits
abbrev pub is_digits : Class → ℕ → List ℕ → Bool
is_digits k n field = length field == n && run k field == n

-- "four-digit octal", and the number that such a field stands for
abbrev pub is_octal_word : List ℕ → Bool
is_octal_word field = is_digits Octal 4 field

abbrev pub octal_word : List ℕ → ℕ
octal_word field = number_at 8 field 0 4 0

-- "four-digit octal address, TAB, four-digit octal word"
unfoldable pub is_word_line : List ℕ → Bool
is_word_line line = has_fields 2 line && is_octal_word (field 0 line) && is_octal_word (field 1 line)

-- the word stored at its address
unfoldable pub stored : List ℕ → List ℕ → List ℕ
stored line memory = slice_set memory (octal_word (field 0 line)) (octal_word (field 1 line))

-- "a later line for an address wins": lines, one after the other
unfoldable pub after_lines : {A : Type 0} → (List ℕ → A → A) → List Line → A → A
after_lines enter [] a = a
after_lines enter (l ∷ ls) a = after_lines enter ls (enter l.bytes a)

-- "Other words .. are 0"
unfoldable pub clear : List ℕ
clear = replicate memory_words 0

-- the memory that a text loads
abbrev pub loaded : List ℕ → List ℕ
loaded text = after_lines stored (lines text) clear

-- "the first such line's number", by which lines fit, of lines whose first has the number n. "Each line, read or written, ends with LF"
unfoldable pub first_unfit : (List ℕ → Bool) → ℕ → List Line → Option ℕ
first_unfit fits n [] = None
first_unfit fits n (l ∷ ls) = elim (l.ended && fits l.bytes) [ true ↦ first_unfit fits (suc n) ls | false ↦ Some n ]
