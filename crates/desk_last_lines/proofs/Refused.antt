-- The line of a refused text, or the output of another.
-- Assumes nothing.
use Rattle.std.proofs.Common.{◌≡◌, refl, List, ℕ}
use Rattle.std.specs.Prelude.{Option, Some, None}
use Rattle.desk_last_lines.specs.LastLines.{or_refused}

-- where no line is unfit the output counts, and nowhere else
pub same_unrefused : (unfit : Option ℕ) (x y : List ℕ) → (unfit ≡ None → x ≡ y) → or_refused unfit x ≡ or_refused unfit y
same_unrefused None x y h = h refl
same_unrefused (Some n) x y h = refl
