-- Constants: "`'` with 1 to 16 binary digits, one bit each; `#` with 1 to 5 octal digits, three bits each; decimal 0 to 32767 without
-- leading zeros, one bit longer than its shortest form (0 has 2, 15 has 5)". Each is read at a place of a line, on whatever stands there. Numerals says the same apart from
-- how it is read.
-- Assumes nothing.
use Rattle.std.specs.Prelude.{ℕ, zero, suc, ◌+◌, ◌-◌, ◌*◌, ◌%◌, Bool, true, false, not, ◌&&◌, ◌||◌, List, eqb, leb, ltb, get_or, Option, Some, None}
use Rattle.word.specs.Word.{fits}
use Rattle.characters.specs.Ascii.{byte_of, digit}
use Rattle.characters.specs.Characters.{is_digit, run_end}
use Rattle.characters.specs.declared.Class.{Class}
use Rattle.characters.specs.declared.Class.TheVariants.{Word, Binary, Octal, Decimal}
use Rattle.text_constants.specs.declared.Number.{Number}
use Rattle.text_constants.specs.declared.Constant.{Constant}

-- a decimal that was read, and a constant, with the place after it
abbrev pub plain : ℕ → ℕ → Option Number
plain v p = Some (record { value = v; place = p })

abbrev pub found : ℕ → ℕ → ℕ → Option Constant
found v w p = Some (record { value = v; width = w; place = p })

-- the number that n digits from a place stand for, put behind v. The digits' codes, 48 to 57, end in their values.
unfoldable pub number_at : ℕ → List ℕ → ℕ → ℕ → ℕ → ℕ
number_at base s at zero v = v
number_at base s at (suc n) v = number_at base s (at + 1) n (v * base + get_or s at 0 % 16)

-- the least number of bits, from n on, that hold v; f more are tried
unfoldable pub shortest_from : ℕ → ℕ → ℕ → ℕ
shortest_from zero n v = n
shortest_from (suc f) n v = elim (fits n v) [ true ↦ n | false ↦ shortest_from f (n + 1) v ]

-- the bits of a decimal's "shortest form": 1 to 15
abbrev pub shortest : ℕ → ℕ
shortest v = shortest_from 14 1 v

-- the marks `'` and `#`
abbrev pub binary_mark : ℕ
binary_mark = byte_of "'"

abbrev pub octal_mark : ℕ
octal_mark = byte_of "#"

-- the limits that the sentence above names; a decimal up to 32767 has at most 5 digits
abbrev pub binary_digits : ℕ
binary_digits = 16

abbrev pub octal_digits : ℕ
octal_digits = 5

abbrev pub decimal_digits : ℕ
decimal_digits = 5

abbrev pub largest : ℕ
largest = 32767

-- whether the run from `at` to `end`, in which digits reach as far as `digits`, is a decimal "without leading zeros" that is not too long
abbrev pub is_plain : ℕ → ℕ → ℕ → ℕ → Bool
is_plain first at digits end = eqb digits end && leb end (at + decimal_digits) && (not (eqb first (digit 0)) || eqb end (at + 1))

-- "a run of letters, digits and dots, is one token": a decimal is a whole run
unfoldable pub decimal_at : List ℕ → ℕ → Option Number
decimal_at s at =
    elim (is_digit (get_or s at 0) && is_plain (get_or s at 0) at (run_end Decimal s at) (run_end Word s at)) [
      | true ↦
          elim (leb (number_at 10 s at (run_end Word s at - at) 0) largest) [
            | true ↦ plain (number_at 10 s at (run_end Word s at - at) 0) (run_end Word s at)
            | false ↦ None
          ]
      | false ↦ None
    ]

-- the digits behind a mark, "read as far as [they] go": from 1 to `most` of them, each of `size` bits
unfoldable pub marked_at : Class → ℕ → ℕ → ℕ → List ℕ → ℕ → Option Constant
marked_at k base size most s at =
    elim (ltb at (run_end k s at) && leb (run_end k s at) (at + most)) [
      | true ↦ found (number_at base s at (run_end k s at - at) 0) (size * (run_end k s at - at)) (run_end k s at)
      | false ↦ None
    ]

-- "one bit longer than its shortest form"
unfoldable pub of_decimal : Option Number → Option Constant
of_decimal (Some d) = found d.value (shortest d.value + 1) d.place
of_decimal None = None

-- the constant at a place: its value, its width and the place after it
unfoldable pub constant_at : List ℕ → ℕ → Option Constant
constant_at s at =
    elim (eqb (get_or s at 0) binary_mark) [
      | true ↦ marked_at Binary 2 1 binary_digits s (at + 1)
      | false ↦
          elim (eqb (get_or s at 0) octal_mark) [ true ↦ marked_at Octal 8 3 octal_digits s (at + 1) | false ↦ of_decimal (decimal_at s at) ]
    ]
