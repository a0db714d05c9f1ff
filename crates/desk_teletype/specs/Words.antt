-- The budget of a sitting, as it is said.
-- Assumes nothing.
use Rattle.std.specs.Prelude.{true, false, ◌&&◌, List, ℕ, leb, ltb, length, Option, Some, None}
use Rattle.characters.specs.declared.Class.TheVariants.{Decimal}
use Rattle.text_constants.specs.Constants.{number_at}
use Rattle.desk_image.specs.Input.{is_digits}

abbrev pub budget_digits : ℕ
budget_digits = 16

-- a decimal number of 1 to 16 digits
unfoldable pub budget_of : List ℕ → Option ℕ
budget_of text =
    elim (ltb 0 (length text) && leb (length text) budget_digits && is_digits Decimal (length text) text) [
      | true ↦ Some (number_at 10 text 0 (length text) 0)
      | false ↦ None
    ]
