-- What the readings of the cycle of calls promise: an answer by every number of calls that is enough.
-- Assumes nothing.
use Rattle.std.specs.Prelude.{List, ℕ, ◌+◌, ◌-◌, ◌*◌, ◌≤◌, length, Option}
use Rattle.text_code.specs.declared.Cursor.{Cursor}
use Rattle.text_code.specs.declared.Part.{Part}
use Rattle.text_code.specs.Readings.{Reading}
use Rattle.text_code.specs.Met.{Meets, Grown}

-- a part that is read from a cursor on, by every number of calls from `need` on
pub record Branch (need : ℕ) (g : ℕ → Reading) (s : List ℕ) (a words pieces : ℕ) (r : Option Part) (from : Cursor) (before after : List ℕ) : Type 0 where
  pub meets : (f : ℕ) → need ≤ f → Meets (g f) r from before after
  pub grown : Grown s a words pieces r

-- how many calls what is unread can lead to, from each of the grammar's functions: a callee has fewer than its caller
abbrev pub calls : List ℕ → ℕ → ℕ → ℕ
calls s at more = 10 * (length s - at) + more
