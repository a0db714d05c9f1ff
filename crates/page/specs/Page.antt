-- What a program's page holds when it is written. A page is the list of its bytes.
-- Assumes nothing.
use Rattle.std.specs.Prelude.{◌≡◌, List, ◌++◌, ℕ, ◌≤◌, length, drop}

-- the page begins with a text of `size` bytes; all after it is as it was. That the size is within the page follows, and is what a caller
-- needs to take that part of it.
pub record Page (text before after : List ℕ) (size : ℕ) : Type 0 where
  pub page : after ≡ text ++ drop size before
  pub whole : size ≡ length text
  pub within : size ≤ length after
