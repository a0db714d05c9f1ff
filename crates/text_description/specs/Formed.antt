-- What holds of every description that is accepted: every limit is kept, rows name only registers that there are, and each `go` lands on a row below it or
-- past the last one.
-- Assumes nothing.
use Rattle.std.specs.Prelude.{◌≡◌, true, false, List, [], ◌∷◌, ℕ, suc, ◌+◌, ◌≤◌, length}
use Rattle.characters.specs.Characters.{same}
use Rattle.text_fields.specs.Fields.{Line, field}
use Rattle.characters.specs.Named.{Named}
use Rattle.text_code.specs.Formed.{Registers, Accepted, FormedDestination}
use Rattle.text_declaration.specs.Rows.{Row, does, goes, pieces_of, Description}
use Rattle.text_limits.specs.Limits.{most_registers, most_rows, most_labels, all_pieces}
use Rattle.text_declaration.specs.Lines.{at_word}
use Rattle.text_description.specs.Description.{has_run}

-- a row over the registers
abbrev pub FormedRow : List Named → Row → Type 0
FormedRow rs (does c d e) =
    record { condition : Accepted rs c; destination : FormedDestination rs d; value : Accepted rs e }
FormedRow rs (goes c n) = Accepted rs c

abbrev pub FormedRows : List Named → List Row → Type 0
FormedRows rs [] = Unit {0}
FormedRows rs (r ∷ more) = record { first : FormedRow rs r; others : FormedRows rs more }

-- a `go` passes over at most so many rows
abbrev pub Lands : Row → ℕ → Type 0
Lands (does c d e) n = Unit {0}
Lands (goes c k) n = k ≤ n

-- "which must stand lower": where n more rows follow, no `go` passes over more than there are below it
abbrev pub Lower : ℕ → List Row → Type 0
Lower n [] = Unit {0}
Lower n (r ∷ more) = record { first : Lands r (length more + n); others : Lower n more }

-- "128 rows, .. 1,024 pieces pass", and 32 registers: "The 33rd register now meets 7"
pub record Formed (d : Description) : Type 0 where
  pub few_registers : length d.registers ≤ most_registers
  pub registers_fit : Registers d.registers
  pub few_rows : length d.rows ≤ most_rows
  pub few_pieces : pieces_of d.rows ≤ all_pieces
  pub rows_formed : FormedRows d.registers d.rows
  pub lower : Lower 0 d.rows
  pub has_run_lem : has_run d.registers ≡ true

-- the labels of a text: its `at` lines
unfoldable pub labels_in : List Line → ℕ
labels_in [] = 0
labels_in (l ∷ ls) = elim (same (field 0 l.bytes) at_word) [ true ↦ suc (labels_in ls) | false ↦ labels_in ls ]

-- a description, and the lines below the header that say it: "32 labels .. pass"
pub record Keeps (d : Description) (ls : List Line) : Type 0 where
  pub formed : Formed d
  pub few_labels : labels_in ls ≤ most_labels
