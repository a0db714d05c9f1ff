-- The increment stays within its 12 bits.
-- Assumes nothing.
use Rattle.std.proofs.Common.{ℕ, ◌^◌, ◌<◌, arith}
use Rattle.word.specs.Word.{word_bits, next}

pub next_lt : (x : ℕ) → next x < 2 ^ word_bits
next_lt x = omega arith
