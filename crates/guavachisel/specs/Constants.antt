-- What `guavachisel_read_constant` yields to a C caller: the constant at a place of a line, in five numbers. Quoted is include/guavachisel.h.
-- Assumes nothing.
use Rattle.std.specs.Prelude.{List, [], ◌∷◌, ℕ, ◌-◌, ◌^◌, Option, Some, None}
use Rattle.text_constants.specs.declared.Constant.{Constant}

-- "a 1 bit for each place that matters: all of the width's"
abbrev pub all_places : ℕ → ℕ
all_places width = 2 ^ width - 1

-- "guavachisel_constant": found, value, matter, width and after, in the order of the struct; "all 0 where none is there"
abbrev pub places : Option Constant → List ℕ
places (Some c) = 1 ∷ c.value ∷ all_places c.width ∷ c.width ∷ c.place ∷ []
places None = 0 ∷ 0 ∷ 0 ∷ 0 ∷ 0 ∷ []
