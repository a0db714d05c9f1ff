-- The syntax tree of an expression, its width and its pieces, the destinations, and what is read of a field. A register's number and width stand in the tree; whole registers are kept
-- apart from bit parts.
-- Assumes nothing.
use Rattle.std.specs.Prelude.{ℕ, ◌+◌, ◌-◌}
use Rattle.word.specs.Word.{word_bits}
use Rattle.text_operators.specs.declared.Operator.{Operator}
use Rattle.text_operators.specs.Operators.{row_of, entry_in, width_by}

pub data Expr : Type 0 where
  -- a register, by its number and width
  register : ℕ → ℕ → Expr
  -- bits a to b of a register, by its number and width
  bit_part : ℕ → ℕ → ℕ → ℕ → Expr
  -- a constant, by its width and value
  constant : ℕ → ℕ → Expr
  -- "M[..]"
  memory : Expr → Expr
  -- "Not"
  complemented : Expr → Expr
  -- "Slr, Srr", with the count
  rotated : Operator → Expr → ℕ → Expr
  -- the other operators
  binary : Operator → Expr → Expr → Expr

-- "Widths: .."
abbrev pub width : Expr → ℕ
width (register r w) = w
width (bit_part r w a b) = b - a + 1
width (constant w v) = w
width (memory e) = word_bits
width (complemented e) = width e
width (rotated o e n) = width e
width (binary o l r) = width_by (entry_in (row_of o)).widths (width l) (width r)

-- "A piece is a name or bit part, a constant, an `M[..]` or an operator"; "Rotation counts are constants"
abbrev pub pieces : Expr → ℕ
pieces (register r w) = 1
pieces (bit_part r w a b) = 1
pieces (constant w v) = 1
pieces (memory e) = pieces e + 1
pieces (complemented e) = pieces e + 1
pieces (rotated o e n) = pieces e + 2
pieces (binary o l r) = pieces l + pieces r + 1

-- "right side a decimal from 0 to 15"
abbrev pub largest_count : ℕ
largest_count = 15

-- "an expression has at most 32"
abbrev pub most_pieces : ℕ
most_pieces = 32

-- "A destination is a name, a bit part `name<a>` or `name<a:b>` .., or `M[expression]`"
pub data Destination : Type 0 where
  to_register : ℕ → ℕ → Destination
  to_part : ℕ → ℕ → ℕ → ℕ → Destination
  to_memory : Expr → Destination

-- what is read of a field: a tree and the place after it, or nothing within the rules
pub data Reading : Type 0 where
  read : Expr → ℕ → Reading
  outside : Reading

-- a destination, or nothing within the rules
pub data DestinationReading : Type 0 where
  leads : Destination → DestinationReading
  astray : DestinationReading
