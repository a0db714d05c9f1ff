-- The widths of all places, as the reader's dictionary has them, and the checks by them.
-- Everything here is total, whatever stands in the dictionary.
-- Assumes nothing.
use Rattle.std.specs.Prelude.{List, [], ◌∷◌, ℕ, zero, suc, ltb}
use Rattle.word.specs.Choice.{pick}
use Rattle.state.specs.Checks.{check_state}
use Rattle.state.specs.Refusals.{Verdict}
use Rattle.text_limits.specs.Limits.{most_registers}
use Rattle.text_names.specs.Dictionaries.{number_at}
use Rattle.text_names.specs.declared.Dictionary.{Dictionary}

-- the width of the register at a place of a dictionary
abbrev pub width_at : Dictionary → ℕ → ℕ
width_at d k = pick (ltb k d.count) (number_at d k) 0

-- n of them from place k on
unfoldable pub widths_from : Dictionary → ℕ → ℕ → List ℕ
widths_from d k zero = []
widths_from d k (suc n) = width_at d k ∷ widths_from d (suc k) n

-- the widths of all places: "13 looks at all 32 places"
abbrev pub padded : Dictionary → List ℕ
padded d = widths_from d 0 most_registers

abbrev pub check_padded : Dictionary → List ℕ → List ℕ → ℕ → Verdict
check_padded d values memory budget = check_state (padded d) values memory budget
