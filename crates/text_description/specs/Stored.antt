-- What the reader's answer and the lent tables say of a text.
-- Assumes nothing.
use Rattle.std.specs.Prelude.{◌≡◌, List, ℕ, ◌*◌, length, replicate, Option, Some, None, Result, Ok, Err, IsOkAnd}
use Rattle.std.proofs.lemmas.List.Edits.{sets}
use Rattle.text_fields.specs.Fields.{Line}
use Rattle.text_targets.specs.Targets.{MissingTarget, missing_at, none_missing, first_missing}
use Rattle.text_names.specs.Dictionaries.{entries, none}
use Rattle.text_declaration.specs.declared.lines.Progress as progress
use Rattle.text_declaration.specs.Rows.{Row, Description}
use Rattle.text_declaration.specs.Stored.{progress_of}
use Rattle.text_code.specs.Met.{capacity}
use Rattle.text_limits.specs.Limits.{most_rows}
use Rattle.text_declaration.specs.declared.faults.Fault.{Fault}
use Rattle.text_code.specs.RowTable.{row_cells}
use Rattle.text_rows.specs.Cells.{code, cells}
use Rattle.text_description.specs.declared.reader.Description as found
use Rattle.text_description.specs.declared.reader.Refusal.{Refusal}
use Rattle.text_description.specs.Description.{Acceptance, accepted, turned_down, finished}

-- what a text comes to, by the verdict
abbrev pub judged : {T : Type 0} → Result T Refusal → Description → Acceptance
judged (Ok x) d = accepted d
judged (Err e) d = turned_down e.fault e.line

-- the first missing target: at the line that the code holds of the lines so far, or, where it holds none, among the lines that are left
abbrev pub first_of : Option ℕ → MissingTarget → MissingTarget
first_of (Some held) left = missing_at held
first_of None left = left

-- what is looked for after all lines, whatever these and the rows are
abbrev pub Finishes : List ℕ → progress.Progress → ℕ → Result (Unit {0}) Refusal → Type 0
Finishes text q n v =
    (all : List Line) (rs : List Row) → first_missing 2 all ≡ first_of q.missing none_missing
    → finished all (progress_of text q rs) n ≡ judged v (record { registers = entries text q.registers; rows = rs })

-- the code's numbers before the first line
abbrev pub unread : progress.Progress
unread = record { registers = none; labels = none; rows = 0; words = 0; pieces = 0; missing = None }

-- what is found of a text that is turned down: nothing but that
abbrev pub refusal : Fault → ℕ → Result found.Description Refusal
refusal f n = Err (record { fault = f; line = n })

-- what an accepted text leaves: its registers, how many rows it has, and their words in the tables, which are else as they came
pub record Accepts (d : Description) (text : List ℕ) (x : found.Description) (code₀ code₁ table₀ table₁ : List ℕ) : Type 0 where
  pub registers_are_lem : entries text x.registers ≡ d.registers
  pub rows_are : x.rows ≡ length d.rows
  pub code_is : code₁ ≡ sets code₀ 0 (code d.rows)
  pub table_is : table₁ ≡ sets table₀ 0 (cells 0 d.rows)

-- what a text that is turned down leaves: no registers, no rows, and nothing in the tables
pub record Empties (f : Fault) (n : ℕ) (r : Result found.Description Refusal) (code₁ table₁ : List ℕ) : Type 0 where
  pub is : r ≡ refusal f n
  pub code_is : code₁ ≡ replicate (4 * capacity) 0
  pub table_is : table₁ ≡ replicate (row_cells * most_rows) 0

-- what reading a text leaves, by cases of what the text comes to: everything that is found, and every place of the tables
pub record Leaves (x : Acceptance) (text : List ℕ) (r : Result found.Description Refusal) (code₀ code₁ table₀ table₁ : List ℕ) : Type 0 where
  pub accepts : (d : Description) → x ≡ accepted d → IsOkAnd r (λ y. Accepts d text y code₀ code₁ table₀ table₁)
  pub empties : (f : Fault) (n : ℕ) → x ≡ turned_down f n → Empties f n r code₁ table₁

-- the same before a refused text's tables are emptied
pub record Tells (x : Acceptance) (text : List ℕ) (r : Result found.Description Refusal) (code₀ code₁ table₀ table₁ : List ℕ) : Type 0 where
  pub accepts : (d : Description) → x ≡ accepted d → IsOkAnd r (λ y. Accepts d text y code₀ code₁ table₀ table₁)
  pub refuses : (f : Fault) (n : ℕ) → x ≡ turned_down f n → r ≡ refusal f n
