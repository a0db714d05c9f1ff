-- Reading a text byte by byte, whatever is kept of it: in one pass, or chunk by chunk.
-- Assumes nothing.
use Rattle.std.specs.Prelude.{◌≡◌, ℕ, ◌+◌, ◌%◌, ◌^◌, ◌<◌, List, [], ◌∷◌, ◌++◌, length}

-- what is kept after a text, where `step` says what one byte makes of it
unfoldable pub pass : {S : Type 0} → (S → ℕ → S) → S → List ℕ → S
pass step s [] = s
pass step s (b ∷ text) = pass step (step s b) text

-- what reading a chunk comes to, from whatever is kept before it; and so of a text that goes on with the chunk
pub record Passed {S : Type 0} (step : S → ℕ → S) (start s : S) (chunk : List ℕ) (t : S) : Type 0 where
  pub every : t ≡ pass step s chunk
  pub goes_on : (text : List ℕ) → s ≡ pass step start text → t ≡ pass step start (text ++ chunk)

-- what some text leaves
pub record Left {S : Type 0} (step : S → ℕ → S) (start s : S) : Type 0 where
  pub text : List ℕ
  pub is : s ≡ pass step start text

-- Lines are counted in 64 bits. Document 01 sets the input no limit; a text of fewer than 2 ^ 64 bytes has every line's number right.
abbrev pub Countable : List ℕ → Type 0
Countable text = length text < 2 ^ 64

-- the number after a line's
abbrev pub next_line : ℕ → ℕ
next_line n = (n + 1) % 2 ^ 64
