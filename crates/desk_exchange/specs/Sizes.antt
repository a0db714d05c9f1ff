-- The bytes that a page needs for what was read and printed. A reader need not believe these.
-- Assumes nothing.
use Rattle.std.specs.Prelude.{ℕ}

-- the most bytes that the line of what was read has, a printed byte with its space, and the line of printed bytes without them
abbrev pub read_line_bytes : ℕ
read_line_bytes = 26

abbrev pub octet_bytes : ℕ
octet_bytes = 4

abbrev pub printed_line_bytes : ℕ
printed_line_bytes = 9
