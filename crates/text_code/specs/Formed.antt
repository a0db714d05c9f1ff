-- What holds of every tree and every destination that the grammar reads, whatever the field was: names are registers of the list with their
-- widths, bit parts lie within their registers, constants fit their widths, and no limit is passed at any part.
-- Assumes nothing.
use Rattle.std.specs.Prelude.{◌≡◌, Bool, true, false, List, [], ◌∷◌, ℕ, ◌^◌, ◌≤◌, ◌<◌, eqb, length}
use Rattle.word.specs.Word.{widest}
use Rattle.characters.specs.Named.{Named}
use Rattle.text_operators.specs.declared.Operator.{Operator}
use Rattle.text_operators.specs.Operators.{row_of, entry_in, strongest, rotations}
use Rattle.text_bit_parts.specs.Refers.{width_in}
use Rattle.text_code.specs.Tree.{Expr, register, bit_part, constant, memory, complemented, rotated, binary, width, pieces, largest_count, most_pieces, Destination, to_register, to_part, to_memory, Reading, read, outside, DestinationReading, leads, astray}

-- "width (1 to 16 ..)", of every register
abbrev pub Registers : List Named → Type 0
Registers [] = Unit {0}
Registers (e ∷ es) = record { some : 1 ≤ e.number; narrow : e.number ≤ widest; others : Registers es }

-- whether an operator is of a strength: Not alone is of the strongest, Slr and Srr alone are the rotations
abbrev pub is_of : ℕ → Operator → Bool
is_of k o = eqb (entry_in (row_of o)).strength k

-- "Expressions hold names, bit parts, `M[..]`, `(..)` and constants"; "No width may pass 16", at any part
abbrev pub Formed : List Named → Expr → Type 0
Formed rs (register r w) = record { listed : r < length rs; width_is : w ≡ width_in rs r; narrow : w ≤ widest }
-- "(a at most b, each .. below the width ..)"
Formed rs (bit_part r w a b) =
    record { listed : r < length rs; width_is : w ≡ width_in rs r; ordered : a ≤ b; below : b < w; narrow : width (bit_part r w a b) ≤ widest }
Formed rs (constant w v) = record { some : 1 ≤ w; narrow : w ≤ widest; fits : v < 2 ^ w }
Formed rs (memory e) = Formed rs e
Formed rs (complemented e) = Formed rs e
-- "Slr, Srr (rotate; right side a decimal from 0 to 15 ..)"
Formed rs (rotated o e n) = record { rotation : is_of rotations o ≡ true; few : n ≤ largest_count; side : Formed rs e }
-- the other operators
Formed rs (binary o l r) =
    record {
      no_prefix : is_of strongest o ≡ false;
      no_rotation : is_of rotations o ≡ false;
      left : Formed rs l;
      right : Formed rs r;
      narrow : width (binary o l r) ≤ widest;
    }

-- an expression that was accepted: "an expression has at most 32" pieces
pub record Accepted (rs : List Named) (t : Expr) : Type 0 where
  pub formed : Formed rs t
  pub narrow : width t ≤ widest
  pub few : pieces t ≤ most_pieces

-- what holds of the tree that was read, if one was
abbrev pub Reads : (Expr → Type 0) → Reading → Type 0
Reads P (read t p) = P t
Reads P outside = Unit {0}

-- "A destination is a name, a bit part .. (a at most b, each .. below the width ..), or `M[expression]`"
abbrev pub FormedDestination : List Named → Destination → Type 0
FormedDestination rs (to_register r w) = record { listed : r < length rs; width_is : w ≡ width_in rs r }
FormedDestination rs (to_part r w a b) = record { listed : r < length rs; width_is : w ≡ width_in rs r; ordered : a ≤ b; below : b < w }
FormedDestination rs (to_memory t) = Accepted rs t

-- what holds of the destination that was read, if one was
abbrev pub LeadsTo : (Destination → Type 0) → DestinationReading → Type 0
LeadsTo P (leads d) = P d
LeadsTo P astray = Unit {0}
