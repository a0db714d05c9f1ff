-- The parts of an instruction word: "In i: bits 0 to 2 op, 3 ib, 4 pb, 5 to 11 pa."
-- Assumes nothing.
use Rattle.std.specs.Prelude.{ℕ, ◌/◌, Bool, ◌||◌, eqb}
use Rattle.word.specs.Word.{word_bits, bits}

abbrev pub op : ℕ → ℕ
op i = bits word_bits 0 2 i

abbrev pub pa : ℕ → ℕ
pa i = bits word_bits 5 11 i

-- bit k of the word: ib is bit 3, pb bit 4, and op 7 goes by bits 3 to 11
abbrev pub flag : ℕ → ℕ → ℕ
flag k i = bits word_bits k k i

abbrev pub ib : ℕ → ℕ
ib i = flag 3 i

abbrev pub pb : ℕ → ℕ
pb i = flag 4 i

-- document 02, Two: "device 03 .. 04": the words 603x and 604x
abbrev pub is_device : ℕ → Bool
is_device i = eqb (i / 8) 0o603 || eqb (i / 8) 0o604
