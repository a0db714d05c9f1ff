-- The bytes that a page needs for what a step did. A reader need not believe these.
-- Assumes nothing.
use Rattle.std.specs.Prelude.{ℕ}

-- the most bytes that the line of an instruction has, that of a word, and all lines of a step: "at most three" of words
abbrev pub last_line_bytes : ℕ
last_line_bytes = 170

abbrev pub word_line_bytes : ℕ
word_line_bytes = 20

abbrev pub change_lines_bytes : ℕ
change_lines_bytes = 60
