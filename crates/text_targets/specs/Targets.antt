-- Which lines are rows, where a `go` leads: the rows down to its label; and which `go` leads nowhere.
-- Assumes nothing.
use Rattle.std.specs.Prelude.{ℕ, ◌+◌, Bool, true, false, ◌&&◌, ◌||◌, List, [], ◌∷◌, Option, Some, None}
use Rattle.characters.specs.Characters.{same}
use Rattle.text_fields.specs.Fields.{Line, field}
use Rattle.text_declaration.specs.Lines.{do_word, go_word, at_word}

-- whether a line is the `at` line of a label
abbrev pub is_at : List ℕ → List ℕ → Bool
is_at label s = same (field 0 s) at_word && same (field 1 s) label

abbrev pub is_go : List ℕ → Bool
is_go s = same (field 0 s) go_word

-- "`do` and `go` lines are rows"
abbrev pub is_row : List ℕ → Bool
is_row s = same (field 0 s) do_word || is_go s

-- so many rows further down
abbrev pub further : ℕ → Option ℕ → Option ℕ
further k (Some n) = Some (k + n)
further k None = None

-- "continue after that label, which must stand lower": the rows down to the line that has it, or none
unfoldable pub passes : List ℕ → List Line → Option ℕ
passes label [] = None
passes label (l ∷ ls) =
    elim (is_at label l.bytes) [
      | true ↦ Some 0
      | false ↦ elim (is_row l.bytes) [ true ↦ further 1 (passes label ls) | false ↦ passes label ls ]
    ]

-- "a `go` without its label lower down"
abbrev pub is_missing : Option ℕ → Bool
is_missing (Some n) = false
is_missing None = true

abbrev pub lacks_label : List ℕ → List Line → Bool
lacks_label s below = is_go s && is_missing (passes (field 2 s) below)

-- "Missing `go` targets are looked for .., lowest line first", from line n on: the line of the first, or none
pub data MissingTarget : Type 0 where
  missing_at : ℕ → MissingTarget
  none_missing : MissingTarget

unfoldable pub first_missing : ℕ → List Line → MissingTarget
first_missing n [] = none_missing
first_missing n (l ∷ ls) = elim (lacks_label l.bytes ls) [ true ↦ missing_at n | false ↦ first_missing (n + 1) ls ]
