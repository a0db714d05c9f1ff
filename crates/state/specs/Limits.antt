-- The limits of a state, each under its one name.
-- Assumes nothing.
use Rattle.std.specs.Prelude.{ℕ}

-- "Memory M: 4,096 words"
abbrev pub memory_words : ℕ
memory_words = 4096

-- "budget above 1,000,000"
abbrev pub budget_limit : ℕ
budget_limit = 1000000

-- "row list shorter than 128 places"
abbrev pub row_places : ℕ
row_places = 128
