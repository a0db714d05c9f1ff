-- Names and labels, "case kept".
-- Assumes nothing.
use Rattle.std.specs.Prelude.{ℕ, Bool, ◌&&◌, List, eqb, leb, length, get_or}
use Rattle.characters.specs.Characters.{is_letter, run_end}
use Rattle.characters.specs.declared.Class.TheVariants.{Word}

abbrev pub longest_name : ℕ
longest_name = 20

-- "1 to 20 letters, digits or dots, a letter first"
unfoldable pub is_name : List ℕ → Bool
is_name s = is_letter (get_or s 0 0) && eqb (run_end Word s 0) (length s) && leb (length s) longest_name
