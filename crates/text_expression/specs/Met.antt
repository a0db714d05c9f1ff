-- What the readings of whole fields promise: that they are the field's, and that the table holds the words of the tree.
-- Assumes nothing.
use Rattle.std.specs.Prelude.{◌≡◌, List, ℕ, ◌+◌, ◌*◌, ◌≤◌, length, Option, Some, None}
use Rattle.std.proofs.lemmas.List.Edits.{sets}
use Rattle.text_code.specs.declared.Cursor.{Cursor}
use Rattle.text_code.specs.declared.Part.{Part}
use Rattle.text_expression.specs.declared.Place.{Place}
use Rattle.text_expression.specs.declared.Place.TheVariants.{Register, Bits, Word}
use Rattle.text_code.specs.Tree.{Expr, pieces, to_register, to_part, to_memory}
use Rattle.text_code.specs.Readings.{Reading, DestinationReading, leads, astray}
use Rattle.text_expression.specs.Expression.{whole, of_address}
use Rattle.text_code.specs.Code.{code_of}
use Rattle.text_code.specs.Met.{Meets, part}

-- the same answer, or none
abbrev pub Same : Part → Option Part → Type 0
Same q (Some r) = r ≡ q
Same q None = Unit {0}

-- a reading that takes the whole field, whatever was read behind so many pieces
pub record Whole (s : List ℕ) (q : Part) (n : ℕ) (r : Option Part) : Type 0 where
  pub meets : (x : Reading) (from : Cursor) (before after : List ℕ) → from.pieces ≡ n → Meets x (Some q) from before after → Meets (whole s x) r from before after
  pub is : Same q r

-- a memory destination's address: its tree, with its pieces and words counted, and its words in the table
pub record Address (x : DestinationReading) (s : List ℕ) (c from : Cursor) (before after : List ℕ) : Type 0 where
  pub tree : Expr
  pub is : x ≡ leads (to_memory tree)
  pub pieces_are : c.pieces ≡ from.pieces + pieces tree
  pub words_are : 4 * c.words ≡ 4 * from.words + length (code_of tree)
  pub code_is : after ≡ sets before (4 * from.words) (code_of tree)
  pub words_few : c.words ≤ from.words + length s
  pub pieces_few : c.pieces ≤ from.pieces + length s

-- the code's answer to a destination
abbrev pub Aims : Option Place → DestinationReading → List ℕ → Cursor → List ℕ → List ℕ → Type 0
Aims (Some (Register r w)) x s from before after = (x ≡ leads (to_register r w)) × (after ≡ before)
Aims (Some (Bits r w a b)) x s from before after = (x ≡ leads (to_part r w a b)) × (after ≡ before)
Aims (Some (Word c)) x s from before after = Address x s c from before after
Aims None x s from before after = x ≡ astray

-- the code's answer to a name, which needs no word in the table
abbrev pub Points : Option Place → DestinationReading → Type 0
Points (Some (Register r w)) x = x ≡ leads (to_register r w)
Points (Some (Bits r w a b)) x = x ≡ leads (to_part r w a b)
Points (Some (Word c)) x = ⊥
Points None x = x ≡ astray

-- an address that was read, whatever it is
abbrev pub Addressed : List ℕ → Cursor → Option Place → Cursor → Type 0
Addressed s c r from =
    (x : Reading) (w : ℕ) (before after : List ℕ) → c.words ≤ from.words + length s → c.pieces ≤ from.pieces + length s
    → Meets x (Some (part c w)) from before after → Aims r (of_address s x) s from before after
