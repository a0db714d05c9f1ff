-- The bytes that a draft needs for a listing. A reader need not believe these.
-- Assumes nothing.
use Rattle.std.specs.Prelude.{ℕ}

-- the most bytes that a step's line has: 21 where its number has two digits
abbrev pub step_line_bytes : ℕ
step_line_bytes = 21

-- the bytes of a page: the longest listing has 359, a heading of 18, nine lines of 20, seven of 21 and the last line of 14
abbrev pub page_bytes : ℕ
page_bytes = 512
