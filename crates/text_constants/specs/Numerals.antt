-- What a constant is, apart from how it is read: whether the bytes t, which stand from the place `at` of a line on, begin with one, its value, its width and the place
-- after it. It is what Constants reads there, which reads none where none stands: the laws `constant_said`, `constant_read`, `no_constant` and `is_missing_lem`.
-- Assumes nothing.
use Rattle.std.specs.Prelude.{◌≡◌, true, false, List, [], ◌∷◌, ◌++◌, ℕ, ◌+◌, ◌-◌, ◌*◌, ◌^◌, ◌≤◌, ◌<◌, length, get_or}
use Rattle.characters.specs.Ascii.{digit}
use Rattle.characters.specs.Characters.{belongs}
use Rattle.characters.specs.declared.Class.{Class}
use Rattle.characters.specs.declared.Class.TheVariants.{Word, Binary, Octal, Decimal}
use Rattle.text_constants.specs.Constants.{binary_mark, octal_mark, binary_digits, octal_digits, largest}

-- the number that a digit stands for
abbrev pub digit_value : ℕ → ℕ
digit_value b = b - digit 0

-- and digits in a base: each counts by the power of the base that the digits behind it leave it
unfoldable pub value_of : ℕ → List ℕ → ℕ
value_of base [] = 0
value_of base (b ∷ ds) = digit_value b * base ^ length ds + value_of base ds

-- bytes that are all of a class
pub data All (k : Class) : List ℕ → Type 0 where
  none : All k []
  more : {b : ℕ} {ds : List ℕ} → belongs k b ≡ true → All k ds → All k (b ∷ ds)

-- "read as far as its digits go": behind them the line ends, or a byte stands that is not of the class
pub data Ends (k : Class) : List ℕ → Type 0 where
  with_line : Ends k []
  before : {b : ℕ} {rest : List ℕ} → belongs k b ≡ false → Ends k (b ∷ rest)

-- "`'` with 1 to 16 binary digits, one bit each; `#` with 1 to 5 octal digits, three bits each": a mark, then digits of a class, at most `most`, `size` bits each
pub record IsMarked (mark : ℕ) (k : Class) (size most : ℕ) (t : List ℕ) (at v w p : ℕ) : Type 0 where
  pub digits : List ℕ
  pub rest : List ℕ
  pub stands : t ≡ mark ∷ digits ++ rest
  pub all : All k digits
  pub ends : Ends k rest
  pub some : 1 ≤ length digits
  pub few : length digits ≤ most
  pub value : v ≡ value_of (2 ^ size) digits
  pub width : w ≡ size * length digits
  pub after : p ≡ at + 1 + length digits

-- "decimal 0 to 32767 without leading zeros"; "a run of letters, digits and dots, is one token": where its digits end the run does
pub record IsDecimal (t : List ℕ) (at v p : ℕ) : Type 0 where
  pub digits : List ℕ
  pub rest : List ℕ
  pub stands : t ≡ digits ++ rest
  pub all : All Decimal digits
  pub ends : Ends Word rest
  pub some : 1 ≤ length digits
  pub plain : get_or digits 0 0 ≡ digit 0 → length digits ≡ 1
  pub value : v ≡ value_of 10 digits
  pub small : v ≤ largest
  pub after : p ≡ at + length digits

-- "its shortest form": of n bits, the least number, at least one, that hold v
pub record Shortest (v n : ℕ) : Type 0 where
  pub some : 1 ≤ n
  pub holds : v < 2 ^ n
  pub least : (m : ℕ) → 1 ≤ m → v < 2 ^ m → n ≤ m

-- a constant that the bytes begin with: its value, its width and the place after it. A decimal is "one bit longer than its shortest form (0 has 2, 15 has 5)"
pub data IsConstant (t : List ℕ) (at : ℕ) : ℕ → ℕ → ℕ → Type 0 where
  binary : {v w p : ℕ} → IsMarked binary_mark Binary 1 binary_digits t at v w p → IsConstant t at v w p
  octal : {v w p : ℕ} → IsMarked octal_mark Octal 3 octal_digits t at v w p → IsConstant t at v w p
  decimal : {v n p : ℕ} → IsDecimal t at v p → Shortest v n → IsConstant t at v (n + 1) p
