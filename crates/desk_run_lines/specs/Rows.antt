-- The rows of a description, and the labels that they name. The sentences quoted are README's, of "Explain a run", and document 01's.
-- Assumes nothing.
use Rattle.std.specs.Prelude.{List, [], ◌∷◌, ◌++◌, Bool, true, false, ℕ, suc, ◌-◌, get_or, Option, Some, None}
use Rattle.word.specs.Choice.{pick}
use Rattle.characters.specs.Ascii.{ascii, tab, line_feed}
use Rattle.page.specs.Text.{decimal}
use Rattle.characters.specs.Characters.{same}
use Rattle.text_fields.specs.Fields.{Line, lines, field}
use Rattle.text_declaration.specs.Lines.{go_word}
use Rattle.text_targets.specs.Targets.{is_row, passes}

-- "`do` and `go` lines are rows", as for the reader
unfoldable pub row_texts : List Line → List (List ℕ)
row_texts [] = []
row_texts (l ∷ ls) = elim (is_row l.bytes) [ true ↦ l.bytes ∷ row_texts ls | false ↦ row_texts ls ]

-- "numbered from 1": the text of row k of a description; nothing where there is none
abbrev pub row_of : ℕ → List ℕ → List ℕ
row_of k text = get_or (row_texts (lines text)) (k - 1) []

-- "each row that is a `go`"
abbrev pub is_go : List ℕ → Bool
is_go line = same (field 0 line) go_word

-- "the label that it names": "`go`, condition, label"
abbrev pub label_of : List ℕ → List ℕ
label_of line = field 2 line

-- "the number of the first row below that label": one more than the rows above it, as they are numbered from 1. No row has the number 0, for a label that isn't there.
abbrev pub row_after : Option ℕ → ℕ
row_after (Some above) = suc above
row_after None = 0

abbrev pub row_below : List ℕ → List ℕ → ℕ
row_below label text = row_after (passes label (lines text))

-- the line of a label and of that row
unfoldable pub at_line : List ℕ → ℕ → List ℕ
at_line label row = ascii "at" ++ tab ∷ label ++ tab ∷ decimal row ++ line_feed ∷ []

-- "after each row that is a `go`"; nothing after another
unfoldable pub label_line : List ℕ → List ℕ → List ℕ
label_line text line = pick (is_go line) (at_line (label_of line) (row_below (label_of line) text)) []

-- "its number, and its line of" the description
unfoldable pub row_line : List ℕ → ℕ → List ℕ
row_line text k = decimal k ++ tab ∷ row_of k text ++ line_feed ∷ [] ++ label_line text (row_of k text)

-- a line for each row
unfoldable pub row_lines : List ℕ → List ℕ → List ℕ
row_lines text [] = []
row_lines text (k ∷ ks) = row_line text k ++ row_lines text ks
