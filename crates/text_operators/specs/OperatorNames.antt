-- The names of the operators, and the names that no register may take.
-- Assumes nothing.
use Rattle.std.specs.Prelude.{ℕ, suc, Bool, true, false, ◌||◌, List, [], ◌∷◌, ltb, length}
use Rattle.characters.specs.Ascii.{ascii}
use Rattle.characters.specs.Characters.{same}

-- the operators' names, in the order of their table: Not, @, Slr, Srr, +, Eql, Neq, Lss, And, Or
abbrev pub operator_names : List (List ℕ)
operator_names =
    ascii "Not"
    ∷ ascii "@"
    ∷ ascii "Slr"
    ∷ ascii "Srr"
    ∷ ascii "+"
    ∷ ascii "Eql"
    ∷ ascii "Neq"
    ∷ ascii "Lss"
    ∷ ascii "And"
    ∷ ascii "Or"
    ∷ []

-- the place of a name in a list, the list's length if it isn't there
unfoldable pub find_in : List (List ℕ) → List ℕ → ℕ
find_in [] s = 0
find_in (n ∷ ns) s = elim (same s n) [ true ↦ 0 | false ↦ suc (find_in ns s) ]

-- the row of the operator that a token names; the row past the last if it names none
unfoldable pub operator_row : List ℕ → ℕ
operator_row s = find_in operator_names s

-- "Reserved as register names: M, Not, Slr, Srr, Eql, Neq, Lss, And, Or"
abbrev pub is_reserved : List ℕ → Bool
is_reserved s = same s (ascii "M") || ltb (operator_row s) (length operator_names)
