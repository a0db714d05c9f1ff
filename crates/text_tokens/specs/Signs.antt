-- The signs and words of the grammar by name, as the reader's definition has them.
-- Assumes nothing.
use Rattle.std.specs.Prelude.{List, ℕ}
use Rattle.characters.specs.Ascii.{ascii, byte_of}

-- the signs `(`, `)`, `[`, `]`, `<`, `>` and `:`
abbrev pub round_open : ℕ
round_open = byte_of "("

abbrev pub round_close : ℕ
round_close = byte_of ")"

abbrev pub square_open : ℕ
square_open = byte_of "["

abbrev pub square_close : ℕ
square_close = byte_of "]"

abbrev pub angle_open : ℕ
angle_open = byte_of "<"

abbrev pub angle_close : ℕ
angle_close = byte_of ">"

abbrev pub colon : ℕ
colon = byte_of ":"

-- the words `Not` and `M`
abbrev pub not_token : List ℕ
not_token = ascii "Not"

abbrev pub memory_token : List ℕ
memory_token = ascii "M"
