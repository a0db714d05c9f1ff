-- A field of digits: its length, and how large a number it stands for.
-- Assumes nothing.
use Rattle.std.proofs.Common.{◌≡◌, ℕ, ◌*◌, ◌^◌, ◌<◌, true, eqb, List, length, zero-add, arith, eqb-true}
use Rattle.characters.specs.Characters.{run, run_end}
use Rattle.text_constants.specs.Constants.{number_at}
use Rattle.characters.specs.declared.Class.{Class}
use Rattle.characters.specs.declared.Class.TheVariants.{Octal}
use Rattle.text_constants.proofs.Digits.{value_lt, octal_small}
use Rattle.laws.proofs.Joined.{and_left, and_right}
use Rattle.desk_image.specs.Input.{is_digits}

-- a run from the first byte on
pub run_from_0 : (k : Class) (s : List ℕ) → run_end k s 0 ≡ run k s
unfolding run_end
run_from_0 k s = zero-add (run k s)

module _ (k : Class) (n : ℕ) (field : List ℕ) (t : is_digits k n field ≡ true) where
  pub digits_size : length field ≡ n
  digits_size = eqb-true _ _ (and_left (eqb (length field) n) (eqb (run k field) n) t)

  digits_run : run k field ≡ n
  digits_run = eqb-true _ _ (and_right (eqb (length field) n) (eqb (run k field) n) t)

-- three bits for each octal digit
pub octal_lt : (n : ℕ) (field : List ℕ) → is_digits Octal n field ≡ true → number_at 8 field 0 n 0 < 2 ^ (3 * n)
octal_lt n field t =
    rw (zero-add (3 * n)) at
    (value_lt Octal 3 octal_small field n 0 0 0 (omega (arith, run_from_0 Octal field, digits_run Octal n field t)) (omega arith))
