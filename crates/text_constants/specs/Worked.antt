-- Constants worked out by hand, as one table: a line, a start in it or past its end, and what is read there.
-- Assumes nothing.
use Rattle.std.specs.Prelude.{List, [], ◌∷◌, ℕ, Option, None}
use Prim.Native.String.{String}
use Rattle.characters.specs.Ascii.{ascii}
use Rattle.text_constants.specs.declared.Constant.{Constant}
use Rattle.text_constants.specs.Constants.{found}

pub record Example : Type 0 where
  pub line : List ℕ
  pub start : ℕ
  pub read : Option Constant

abbrev reads : String → ℕ → Option Constant → Example
reads line start read = record { line = ascii line; start = start; read = read }

unfoldable pub worked : List Example
worked =
    -- "0 has 2, 15 has 5", and the widest
    reads "0" 0 (found 0 2 1)
    ∷ reads "15" 0 (found 15 5 2)
    ∷ reads "32767" 0 (found 32767 16 5)
    -- a start inside a token is a start
    ∷ reads "a15" 1 (found 15 5 3)
    ∷ reads "'101" 1 (found 101 8 4)
    -- a decimal is a whole run, without leading zeros, up to 32767
    ∷ reads "12ab" 0 None
    ∷ reads "12." 0 None
    ∷ reads "07" 0 None
    ∷ reads "007" 0 None
    ∷ reads "32768" 0 None
    -- digits behind a mark go as far as they go
    ∷ reads "'12" 0 (found 1 1 2)
    ∷ reads "#128 " 0 (found 10 6 3)
    ∷ reads "'101Eql'1" 7 (found 1 1 9)
    -- a mark alone, as many digits as are allowed, and one more
    ∷ reads "'" 0 None
    ∷ reads "#8" 0 None
    ∷ reads "'1111111111111111" 0 (found 65535 16 17)
    ∷ reads "'11111111111111111" 0 None
    ∷ reads "#77777" 0 (found 32767 15 6)
    ∷ reads "#777777" 0 None
    -- at the end, past it, and in no line at all
    ∷ reads "15" 2 None
    ∷ reads "15" 9 None
    ∷ reads "" 0 None
    ∷ []
