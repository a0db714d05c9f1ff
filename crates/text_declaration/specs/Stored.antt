-- What the code's numbers say of what was read so far, and what a line that declares something promises of them.
-- Assumes nothing.
use Rattle.std.specs.Prelude.{◌≡◌, List, ℕ, ◌≤◌, length, Result, Ok, Err, IfOk}
use Rattle.text_names.specs.Dictionaries.{entries}
use Rattle.text_declaration.specs.declared.faults.Fault.{Fault}
use Rattle.text_declaration.specs.declared.lines.Progress as progress
use Rattle.text_declaration.specs.Rows.{Row}
use Rattle.text_limits.specs.Limits.{most_registers, most_rows, most_labels, all_pieces}
use Rattle.text_declaration.specs.Lines.{Progress, Step, refused, next}

-- what was read so far, by the code's numbers and the rows
abbrev pub progress_of : List ℕ → progress.Progress → List Row → Progress
progress_of text q rs =
    record { registers = entries text q.registers; labels = entries text q.labels; rows = rs }

-- what a line comes to, by the code's answer and the rows
abbrev pub step_of : List ℕ → Result progress.Progress Fault → List Row → Step
step_of text (Ok p) rs = next (progress_of text p rs)
step_of text (Err f) rs = refused f

-- the limits that hold of what was read so far
pub record Within (q : progress.Progress) : Type 0 where
  pub few_registers : q.registers.count ≤ most_registers
  pub few_labels : q.labels.count ≤ most_labels
  pub few_rows : q.rows ≤ most_rows
  pub few_words : q.words ≤ q.pieces
  pub few_pieces : q.pieces ≤ all_pieces

-- what was read so far, after a line that adds no row
pub record Stays (q p : progress.Progress) : Type 0 where
  pub same_rows : p.rows ≡ q.rows
  pub same_words : p.words ≡ q.words
  pub same_pieces : p.pieces ≡ q.pieces
  pub same_missing : p.missing ≡ q.missing
  pub within : Within p

-- a line that adds no row
pub record Plain (text : List ℕ) (f : Progress → Step) (q : progress.Progress) (r : Result progress.Progress Fault) : Type 0 where
  pub is : (rs : List Row) → q.rows ≡ length rs → f (progress_of text q rs) ≡ step_of text r rs
  pub stays : IfOk r (λ p. Stays q p)
