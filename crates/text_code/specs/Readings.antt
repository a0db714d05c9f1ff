-- What the reader's definition makes of what was read, form by form of operands and operators.
-- Assumes nothing.
use Rattle.std.specs.Prelude.{ℕ, ◌+◌, true, false, List, eqb, leb, Option, Some, None}
use Rattle.word.specs.Word.{widest}
use Rattle.text_constants.specs.declared.Number.{Number}
use Rattle.text_constants.specs.declared.Constant.{Constant}
use Rattle.text_bit_parts.specs.declared.Reference.{Reference}
use Rattle.text_bit_parts.specs.declared.Reference.TheVariants.{Whole, Part}
use Rattle.text_operators.specs.Operators.{entry_in}
use Rattle.text_tokens.specs.Tokens.{skip, next}
use Rattle.text_tokens.specs.Signs.{square_close}
use Rattle.text_code.specs.Tree.{Expr, register, bit_part, constant, memory, complemented, rotated, binary, width, largest_count}
pub use Rattle.text_code.specs.Tree.{Reading, read, outside, DestinationReading, leads, astray}

-- "No width may pass 16"
unfoldable pub limited : Expr → ℕ → Reading
limited t p = elim (leb (width t) widest) [ true ↦ read t p | false ↦ outside ]

-- a name or a bit part, and a constant
unfoldable pub of_reference : Option Reference → Reading
of_reference (Some (Whole r w p)) = limited (register r w) p
of_reference (Some (Part r w a b p)) = limited (bit_part r w a b) p
of_reference None = outside

unfoldable pub of_constant : Option Constant → Reading
of_constant (Some d) = limited (constant d.width d.value) d.place
of_constant None = outside

-- "Not", before its operand
unfoldable pub not_of : Reading → Reading
not_of (read t p) = read (complemented t) p
not_of outside = outside

-- what stands in `M[..]` or `(..)`, by its closing byte
abbrev pub inside : ℕ → Expr → Expr
inside close t = elim (eqb close square_close) [ true ↦ memory t | false ↦ t ]

unfoldable pub closed : List ℕ → ℕ → Reading → Reading
closed s close (read t p) = elim (eqb (next s p) close) [ true ↦ read (inside close t) (skip s p + 1) | false ↦ outside ]
closed s close outside = outside

-- "Slr, Srr (rotate; right side a decimal from 0 to 15 ..)"
unfoldable pub rotation_of : ℕ → Expr → Option Number → Reading
rotation_of row t (Some d) = elim (leb d.value largest_count) [ true ↦ read (rotated (entry_in row).operator t d.value) d.place | false ↦ outside ]
rotation_of row t None = outside

-- the other operators
unfoldable pub joined : ℕ → Expr → Reading → Reading
joined row l (read r p) = limited (binary (entry_in row).operator l r) p
joined row l outside = outside
