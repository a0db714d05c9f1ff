-- Whole tokens, one behind the other, with or without spaces before each.
-- Assumes nothing.
use Rattle.std.specs.Prelude.{List, ℕ, ◌<◌, length}
use Rattle.text_tokens.specs.Tokens.{skip, after_token}

-- "Spaces may stand between tokens": from one place to another there are only whole tokens, and spaces before them
pub data Reaches (s : List ℕ) (at : ℕ) : ℕ → Type 0 where
  nothing : Reaches s at at
  token : {q : ℕ} → Reaches s at q → skip s q < length s → Reaches s at (after_token s q)
