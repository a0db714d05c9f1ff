-- The bytes that a draft needs for the lines of registers and rows. A reader need not believe these.
-- Assumes nothing.
use Rattle.std.specs.Prelude.{List, ℕ, ◌≤◌, length}
use Rattle.text_limits.specs.Limits.{most_bytes}
use Rattle.desk_run_lines.specs.Rows.{row_of, label_line}

-- the bytes of the eleven lines of the machine registers, and of the four of the working registers
abbrev pub register_lines_bytes : ℕ
register_lines_bytes = 149

abbrev pub working_lines_bytes : ℕ
working_lines_bytes = 37

-- the bytes of a page: the longest explanation has fewer, as the last line of a run has at most 32, what was read and printed 291, the last step 230, the registers 186, and 128 rows at
-- most 97 each
abbrev pub page_bytes : ℕ
page_bytes = 16384

-- the most bytes that the line of a label has, and a row's line with it
abbrev pub label_line_bytes : ℕ
label_line_bytes = 16

abbrev pub row_line_bytes : ℕ
row_line_bytes = 97

-- a description's text is no longer than a text may be, its rows' texts and the lines of their labels no longer than these
abbrev pub row_text_bytes : ℕ
row_text_bytes = 76

pub record Short (text : List ℕ) : Type 0 where
  pub size : length text ≤ most_bytes
  pub row : (k : ℕ) → length (row_of k text) ≤ row_text_bytes
  pub label : (k : ℕ) → length (label_line text (row_of k text)) ≤ label_line_bytes
