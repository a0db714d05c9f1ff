-- The states that no refusal meets, said without a scan.
-- Assumes nothing.
use Rattle.std.specs.Prelude.{◌≡◌, List, ℕ, ◌^◌, ◌<◌, length, get_or}
use Rattle.word.specs.Word.{word_bits}
use Rattle.state.specs.Limits.{memory_words}

-- "Memory that meets neither 11 nor 12 is acceptable"
pub record Acceptable (memory : List ℕ) : Type 0 where
  pub size : length memory ≡ memory_words
  pub words : (k : ℕ) → get_or memory k 0 < 2 ^ word_bits

-- "a value fits a register if it is no wider", at every place; a place without a register holds 0
pub record Fitting (widths values : List ℕ) : Type 0 where
  pub narrow : (k : ℕ) → get_or values k 0 < 2 ^ get_or widths k 0
