-- The shipped descriptions: what the reader reads in their texts.
-- Assumes nothing.
use Rattle.std.specs.Prelude.{[], ℕ}
use Rattle.text_declaration.specs.Rows.{Description}
use Rattle.text_description.specs.Description.{Acceptance, accepted, turned_down, read_text}
use Rattle.shipped_rows.specs.Variant.{Variant}
use Rattle.shipped_rows.specs.Text.{shipped_text}

-- the description that was read; a text that is turned down has none
abbrev pub described : Acceptance → Description
described (accepted d) = d
described (turned_down fault line) = record { registers = []; rows = [] }

unfoldable pub shipped : Variant → Description
shipped v = described (read_text (shipped_text v))

-- "the shipped description (at most 80 rows)"
abbrev pub most_shipped_rows : ℕ
most_shipped_rows = 80
