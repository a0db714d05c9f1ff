-- Characters, runs of characters of one class, and byte strings. A text is the list of its bytes; a place counts from 0, and what
-- stands past the end is 0, which is no character of a description.
-- Assumes nothing.
use Rattle.std.specs.Prelude.{ℕ, suc, ◌+◌, Bool, true, false, not, ◌&&◌, ◌||◌, List, [], ◌∷◌, eqb, leb, drop}
use Rattle.characters.specs.Ascii.{byte_of, tab, digit}
use Rattle.characters.specs.declared.Class.{Class}
use Rattle.characters.specs.declared.Class.TheVariants.{Space, Word, Binary, Octal, Decimal, Printable, Other}

-- "digits"
abbrev pub is_digit : ℕ → Bool
is_digit b = leb (digit 0) b && leb b (digit 9)

-- "letters", "case kept"
abbrev pub is_letter : ℕ → Bool
is_letter b = leb (byte_of "A") b && leb b (byte_of "Z") || leb (byte_of "a") b && leb b (byte_of "z")

-- "letters, digits or dots"
abbrev pub is_word : ℕ → Bool
is_word b = is_letter b || is_digit b || eqb b (byte_of ".")

-- whether a byte is of a class
abbrev pub belongs : Class → ℕ → Bool
belongs Space b = eqb b (byte_of " ")
belongs Word b = is_word b
belongs Binary b = leb (digit 0) b && leb b (digit 1)
belongs Octal b = leb (digit 0) b && leb b (digit 7)
belongs Decimal b = is_digit b
belongs Printable b = leb 32 b && leb b 126 || eqb b tab
belongs (Other x) b = not (eqb b x)

-- how many bytes of a class a text begins with: "read as far as its digits go"
unfoldable pub run : Class → List ℕ → ℕ
run k [] = 0
run k (b ∷ s) = elim (belongs k b) [ true ↦ suc (run k s) | false ↦ 0 ]

-- the place after the run of a class that starts at a place
unfoldable pub run_end : Class → List ℕ → ℕ → ℕ
run_end k s at = at + run k (drop at s)

-- whether two byte strings are the same
unfoldable pub same : List ℕ → List ℕ → Bool
same [] [] = true
same [] (b ∷ t) = false
same (a ∷ s) [] = false
same (a ∷ s) (b ∷ t) = eqb a b && same s t
