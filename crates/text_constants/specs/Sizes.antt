-- What the code asks: of the digits behind a mark, that the numbers that they stand for are those of `size` bits, and that `most` digits fit 16 bits; of a constant, that
-- it does.
-- Assumes nothing.
use Rattle.std.specs.Prelude.{◌≡◌, true, ℕ, ◌*◌, ◌%◌, ◌^◌, ◌≤◌, ◌<◌, Option, Some, None}
use Rattle.word.specs.Word.{widest}
use Rattle.characters.specs.Characters.{belongs}
use Rattle.characters.specs.declared.Class.{Class}
use Rattle.text_constants.specs.declared.Constant.{Constant}

pub record Sized (k : Class) (base size most : ℕ) : Type 0 where
  pub small : (b : ℕ) → belongs k b ≡ true → b % 16 < 2 ^ size
  pub power : base ≡ 2 ^ size
  pub short : base ≤ 10
  pub some : 1 ≤ size
  pub narrow : size * most ≤ widest

abbrev pub Narrow : Option Constant → Type 0
Narrow (Some c) = c.width ≤ widest
Narrow None = Unit {0}
