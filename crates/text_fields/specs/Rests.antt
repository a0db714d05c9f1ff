-- What the code holds of a text that it goes through line by line: what is left of it, and the first line of that. A reader of the rules need not believe these.
-- Assumes nothing.
use Rattle.std.specs.Prelude.{ℕ, ◌-◌, ◌≤◌, ◌≡◌, List, ltb, length, drop}
use Rattle.characters.specs.Ascii.{line_feed}
use Rattle.text_fields.specs.Fields.{until, before, Line}

-- the first line of what is left
abbrev pub first_line : List ℕ → Line
first_line s = record { bytes = before line_feed s; ended = ltb (until line_feed s) (length s) }

-- what is left of a text
pub record Rest (text rest : List ℕ) : Type 0 where
  pub is : rest ≡ drop (length text - length rest) text
  pub fits : length rest ≤ length text
