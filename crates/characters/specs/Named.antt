-- Lists of names, each with a number: a register's width, 0 for a label.
-- Assumes nothing.
use Rattle.std.specs.Prelude.{ℕ, suc, Bool, true, false, cond, List, [], ◌∷◌, ltb, length, Option, Some, None}
use Rattle.characters.specs.Characters.{same}

-- a name with its number
pub record Named : Type 0 where
  pub name : List ℕ
  pub number : ℕ

-- the place of a name in a list, the list's length if it isn't there
unfoldable pub find : List ℕ → List Named → ℕ
find s [] = 0
find s (e ∷ es) = elim (same e.name s) [ true ↦ 0 | false ↦ suc (find s es) ]

-- whether a name stands in a list
abbrev pub among : List ℕ → List Named → Bool
among s es = ltb (find s es) (length es)

-- the place of the first entry of that name, None where there is none
abbrev pub found : List ℕ → List Named → Option ℕ
found s es = cond (among s es) (Some (find s es)) None
