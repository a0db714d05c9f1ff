-- The width of a formed tree, and of its registers.
-- Assumes nothing.
use mathlib.Core.Path.{sym, subst}
use mathlib.Core.List.{List, [], ◌∷◌}
use Prim.Native.Nat.{ℕ, zero, suc, ◌≤◌, ◌<◌}
use native.Mathlib.Omega.{arith}
use lib.ListN.{length}
use Rattle.word.specs.Word.{widest}
use Rattle.characters.specs.Named.{Named}
use Rattle.text_operators.specs.declared.Widths.{Widths}
use Rattle.text_operators.specs.declared.Widths.TheVariants.{Left, Sum, Carry, One, Wider}
use Rattle.text_operators.specs.Operators.{row_of, entry_in, width_by}
use Rattle.text_bit_parts.specs.References.{width_in}
use Rattle.text_code.specs.Tree.{Expr, register, bit_part, constant, memory, complemented, rotated, binary, width}
use Rattle.text_code.specs.Formed.{Registers, Formed}

-- a formed tree's width is at most 16
pub formed_narrow : (rs : List Named) (t : Expr) → Formed rs t → width t ≤ widest
formed_narrow rs (register r w) h = h.narrow
formed_narrow rs (bit_part r w a b) h = h.narrow
formed_narrow rs (constant w v) h = h.narrow
formed_narrow rs (memory e) h = omega arith
formed_narrow rs (complemented e) h = formed_narrow rs e h
formed_narrow rs (rotated o e n) h = formed_narrow rs e h.side
formed_narrow rs (binary o l r) h = h.narrow

-- a register's: 1 to 16
pub register_width : (rs : List Named) (r : ℕ) → Registers rs → r < length rs → (1 ≤ width_in rs r) × (width_in rs r ≤ widest)
register_width [] r h l = absurd (omega arith)
register_width (e ∷ es) zero h l = (h.some, h.narrow)
register_width (e ∷ es) (suc r) h l = register_width es r h.others (omega arith)

-- an operator's value has at least one bit if its left side has
joined_some : (k : Widths) (l r : ℕ) → 1 ≤ l → 1 ≤ width_by k l r
joined_some Left l r h = h
joined_some Sum l r h = omega arith
joined_some Carry l r h = omega arith
joined_some One l r h = omega arith
joined_some Wider l r h = omega arith

-- a formed tree's width is at least 1
pub formed_some : (rs : List Named) → Registers rs → (t : Expr) → Formed rs t → 1 ≤ width t
formed_some rs g (register r w) h = subst (λ (n : ℕ). 1 ≤ n) (sym h.width_is) (register_width rs r g h.listed).0
formed_some rs g (bit_part r w a b) h = omega arith
formed_some rs g (constant w v) h = h.some
formed_some rs g (memory e) h = omega arith
formed_some rs g (complemented e) h = formed_some rs g e h
formed_some rs g (rotated o e n) h = formed_some rs g e h.side
formed_some rs g (binary o l r) h = joined_some (entry_in (row_of o)).widths (width l) (width r) (formed_some rs g l h.left)
