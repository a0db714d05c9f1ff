-- The six limits of a description's text, each by its one name. The registers' limit is the number of the evaluator's places, too.
-- Assumes nothing.
use Rattle.std.specs.Prelude.{ℕ}

-- "16,384 bytes, 200 bytes, .. 128 rows, 32 labels, 1,024 pieces pass"
abbrev pub most_bytes : ℕ
most_bytes = 16384

abbrev pub longest_line : ℕ
longest_line = 200

-- "the register set grows to 32 places. The 33rd register now meets 7"
abbrev pub most_registers : ℕ
most_registers = 32

abbrev pub most_rows : ℕ
most_rows = 128

abbrev pub most_labels : ℕ
most_labels = 32

abbrev pub all_pieces : ℕ
all_pieces = 1024
