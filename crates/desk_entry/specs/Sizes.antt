-- The bytes that the scanner keeps of a line. A reader need not believe this: the law `long_unfit` says that no fit line has more.
-- Assumes nothing.
use Rattle.std.specs.Prelude.{ℕ}

abbrev pub line_bytes : ℕ
line_bytes = 261
