-- Lines and fields: "Lines end with LF, the last too. Fields are parted by one TAB and none is empty."
-- Assumes nothing.
use Rattle.std.specs.Prelude.{ℕ, zero, suc, ◌+◌, Bool, true, false, ◌&&◌, List, [], ◌∷◌, eqb, ltb, length, take, drop}
use Rattle.characters.specs.Ascii.{tab, line_feed}
use Rattle.characters.specs.Characters.{run}
use Rattle.characters.specs.declared.Class.TheVariants.{Other}

-- how many bytes stand before the first byte b, all of them if there is none
abbrev pub until : ℕ → List ℕ → ℕ
until b s = run (Other b) s

-- what stands before the first byte b
abbrev pub before : ℕ → List ℕ → List ℕ
before b s = take (until b s) s

-- what stands after it, nothing if there is none
abbrev pub after : ℕ → List ℕ → List ℕ
after b s = drop (until b s + 1) s

-- a line, its LF aside, and whether it has one
pub record Line : Type 0 where
  pub bytes : List ℕ
  pub ended : Bool

-- a byte put before the first line
abbrev pub push : ℕ → List Line → List Line
push b [] = record { bytes = b ∷ []; ended = false } ∷ []
push b (l ∷ ls) = record { bytes = b ∷ l.bytes; ended = l.ended } ∷ ls

-- the lines of a text; nothing after the last LF is a line
unfoldable pub lines : List ℕ → List Line
lines [] = []
lines (b ∷ s) = elim (eqb b line_feed) [ true ↦ record { bytes = []; ended = true } ∷ lines s | false ↦ push b (lines s) ]

-- field n of a line, from 0
unfoldable pub field : ℕ → List ℕ → List ℕ
field zero s = before tab s
field (suc n) s = field n (after tab s)

-- whether a line has exactly n fields and none is empty
unfoldable pub has_fields : ℕ → List ℕ → Bool
has_fields zero s = false
has_fields (suc zero) s = ltb 0 (until tab s) && eqb (until tab s) (length s)
has_fields (suc (suc n)) s = elim (ltb 0 (until tab s) && ltb (until tab s) (length s)) [ true ↦ has_fields (suc n) (after tab s) | false ↦ false ]
