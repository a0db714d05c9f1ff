-- What lines say, computed: each kind of line, at its limits and past them.
-- Assumes nothing.
use mathlib.Core.Path.{◌≡◌, refl}
use mathlib.Core.List.{List, [], ◌∷◌, ◌++◌, map}
use Prim.Native.Nat.{ℕ, zero, suc}
use lib.ListN.{replicate}
use Rattle.characters.specs.Ascii.{ascii}
use Rattle.characters.specs.Characters.{run, run_end, same}
use Rattle.text_constants.specs.Constants.{number_at}
use Rattle.text_fields.specs.Fields.{field, has_fields}
use Rattle.characters.specs.Named.{find}
use Rattle.desk_entry.specs.Octets.{are_octets, octets, is_input}
use Rattle.desk_entry.specs.Lines.{word_entry, register_entry, budget_entry, input_entry, said, entry}
use Rattle.desk_entry.specs.declared.Entry.TheVariants.{Word, Register, Budget, Input}
use Rattle.std.specs.Prelude.{Some, None}

-- a byte more than n
abbrev spaced : ℕ → List ℕ
spaced zero = ascii "001"
spaced (suc n) = ascii "001 " ++ spaced n

fit_lines : map entry (
    ascii "0200\t7300"
    ∷ ascii "7777\t0000"
    ∷ ascii "LAC\t17777"
    ∷ ascii "PC\t0201"
    ∷ ascii "RUN\t0"
    ∷ ascii "INTERRUPT.ENABLE\t1"
    ∷ ascii "INTERRUPT.REQUEST\t1"
    ∷ ascii "SWITCHES\t4000"
    ∷ ascii "budget\t1000000"
    ∷ ascii "budget\t0"
    ∷ ascii "budget\t0000016"
    ∷ ascii "KEY.BYTE\t377"
    ∷ ascii "KEYBOARD.FLAG\t1"
    ∷ ascii "PRINTER.FLAG\t0"
    ∷ ascii "PRINT.BYTE\t101"
    ∷ ascii "PRINT.MARK\t1"
    ∷ ascii "input\t377"
    ∷ ascii "input\t110 145 154"
    ∷ (ascii "input\t" ++ spaced 63)
    ∷ [])
    ≡ Some (Word 0o200 0o7300)
    ∷ Some (Word 0o7777 0)
    ∷ Some (Register 0 0o17777)
    ∷ Some (Register 1 0o201)
    ∷ Some (Register 2 0)
    ∷ Some (Register 3 1)
    ∷ Some (Register 4 1)
    ∷ Some (Register 5 0o4000)
    ∷ Some (Budget 1000000)
    ∷ Some (Budget 0)
    ∷ Some (Budget 16)
    ∷ Some (Register 6 0o377)
    ∷ Some (Register 7 1)
    ∷ Some (Register 8 0)
    ∷ Some (Register 9 0o101)
    ∷ Some (Register 10 1)
    ∷ Some (Input 1)
    ∷ Some (Input 3)
    ∷ Some (Input 64)
    ∷ []
unfolding run run_end same number_at field has_fields find are_octets is_input word_entry register_entry budget_entry input_entry said entry
fit_lines = refl

unfit_lines : map entry (
    ascii "LAC\t20000"
    ∷ ascii "LAC\t0000"
    ∷ ascii "PC\t00200"
    ∷ ascii "RUN\t2"
    ∷ ascii "SWITCHES\t400"
    ∷ ascii "lac\t00000"
    ∷ ascii "i\t0000"
    ∷ ascii "budget\t1000001"
    ∷ ascii "budget\t00000016"
    ∷ ascii "budget\t"
    ∷ ascii "budget"
    ∷ ascii "budget\t1f"
    ∷ ascii "0200 7300"
    ∷ ascii "200\t7300"
    ∷ ascii "0200\t7300\t"
    ∷ ascii "0200\t7380"
    ∷ ascii "\t0200"
    ∷ ascii "KEY.BYTE\t400"
    ∷ ascii "KEY.BYTE\t0377"
    ∷ ascii "KEYBOARD.FLAG\t2"
    ∷ ascii "PRINT.MARK\t001"
    ∷ ascii "input\t"
    ∷ ascii "input"
    ∷ ascii "input\t400"
    ∷ ascii "input\t11"
    ∷ ascii "input\t0110"
    ∷ ascii "input\t118"
    ∷ ascii "input\t110145"
    ∷ ascii "input\t110 145 "
    ∷ ascii "input\t110  145"
    ∷ ascii "input\t110\t145"
    ∷ (ascii "input\t" ++ spaced 64)
    ∷ []
    ∷ [])
    ≡ replicate 33 None
unfolding run run_end same number_at field has_fields find are_octets is_input word_entry register_entry budget_entry input_entry said entry
unfit_lines = refl

-- the bytes of an input, in their order
pub input_bytes_lem : octets (ascii "110 145 154") 3 ≡ 0o110 ∷ 0o145 ∷ 0o154 ∷ []
unfolding number_at octets
input_bytes_lem = refl
