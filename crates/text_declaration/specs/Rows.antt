-- What a description holds: registers, and rows over the syntax tree. A `go` holds the number of rows that it passes over.
-- "`do` and `go` lines are rows, numbered from 1."
-- Assumes nothing.
use Rattle.std.specs.Prelude.{ℕ, ◌+◌, List, [], ◌∷◌}
use Rattle.characters.specs.Named.{Named}
use Rattle.text_code.specs.Tree.{Expr, pieces, Destination, to_register, to_part, to_memory}

pub data Row : Type 0 where
  -- "`do`, condition, destination, expression"
  does : Expr → Destination → Expr → Row
  -- "`go`, condition, label": condition, and the rows passed over
  goes : Expr → ℕ → Row

-- "a memory destination's address being one of its own"; "the destination itself is no piece"
abbrev pub address_pieces : Destination → ℕ
address_pieces (to_register r w) = 0
address_pieces (to_part r w a b) = 0
address_pieces (to_memory t) = pieces t

abbrev pub row_pieces : Row → ℕ
row_pieces (does c d e) = pieces c + address_pieces d + pieces e
row_pieces (goes c n) = pieces c

unfoldable pub pieces_of : List Row → ℕ
pieces_of [] = 0
pieces_of (r ∷ rs) = row_pieces r + pieces_of rs

-- a description that was read: registers with their widths, and rows
pub record Description : Type 0 where
  pub registers : List Named
  pub rows : List Row
