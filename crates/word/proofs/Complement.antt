-- The laws of complement, for every width.
-- Assumes nothing.
use Rattle.std.proofs.Common.{◌≡◌, ℕ, ◌^◌, ◌<◌}
use lib.Arith.{sub-sub_self}
use lib.Pow.{ones_sub-lt, le_ones}
use Rattle.word.specs.Word.{complement}

-- "Not .. as the .. only side"
pub complement_lt : (w x : ℕ) → complement w x < 2 ^ w
complement_lt w x = ones_sub-lt w x

-- twice is the word again
pub complement_twice : (w : ℕ) {x : ℕ} → x < 2 ^ w → complement w (complement w x) ≡ x
complement_twice w h = sub-sub_self (le_ones w h)
