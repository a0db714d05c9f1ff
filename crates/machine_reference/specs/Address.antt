-- "Address": the address that ops 0 to 5 work on, and the memory that auto-indexing leaves.
-- Assumes nothing.
use Rattle.std.specs.Prelude.{List, ℕ, Bool, ◌&&◌, get_or, set, leb}
use Rattle.word.specs.Choice.{on, pick}
use Rattle.word.specs.Word.{word_bits, bits, join, next}
use Rattle.machine_state.specs.Instruction.{ib, pb, pa}

-- "joins a five-bit page number and a seven-bit page address"
abbrev pub address : ℕ → ℕ → ℕ
address page within = join 7 page within

-- "page 0 if pb = 0, else bits 0 to 4 of last.pc; then pa"
unfoldable pub first_address : ℕ → ℕ → ℕ
first_address i last = address (pick (on (pb i)) (bits word_bits 0 4 last) 0) (pa i)

-- "a first address from 0010 to 0017"
abbrev pub is_index : ℕ → Bool
is_index a = leb 0o10 a && leb a 0o17

-- "has its word increased by 1"
unfoldable pub indexed : ℕ → List ℕ → List ℕ
indexed a memory = pick (is_index a) (set memory a (next (get_or memory a 0))) memory

-- "If ib = 1: .., then the address becomes the word there"
unfoldable pub effective : ℕ → ℕ → List ℕ → ℕ
effective i last memory = pick (on (ib i)) (get_or (indexed (first_address i last) memory) (first_address i last) 0) (first_address i last)

-- the memory after the address has been worked out
unfoldable pub after_indexing : ℕ → ℕ → List ℕ → List ℕ
after_indexing i last memory = pick (on (ib i)) (indexed (first_address i last) memory) memory
