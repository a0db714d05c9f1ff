-- The machine registers as one table: their names and widths, and the values in their order. What is checked, read and written of a register goes by it.
-- Assumes nothing.
use Rattle.std.specs.Prelude.{List, [], ◌∷◌, map, ℕ, ◌+◌, ◌/◌, get_or}
use Rattle.word.specs.Word.{word_bits}
use Rattle.characters.specs.Ascii.{ascii}
use Rattle.characters.specs.Named.{Named}
use Rattle.machine_state.specs.declared.Machine.{Machine}
use Rattle.machine_state.specs.State.{lac_bits}

-- "Machine registers, in this order ..: LAC (13 bits ..), PC (12), RUN (1), INTERRUPT.ENABLE (1), INTERRUPT.REQUEST (1), SWITCHES (12)"
abbrev pub machine_registers : List Named
machine_registers =
    record { name = ascii "LAC"; number = lac_bits }
    ∷ record { name = ascii "PC"; number = word_bits }
    ∷ record { name = ascii "RUN"; number = 1 }
    ∷ record { name = ascii "INTERRUPT.ENABLE"; number = 1 }
    ∷ record { name = ascii "INTERRUPT.REQUEST"; number = 1 }
    ∷ record { name = ascii "SWITCHES"; number = word_bits }
    ∷ []

-- their widths
abbrev pub widths : List ℕ
widths = map (λ (r : Named). r.number) machine_registers

-- the octal digits of a width: "a digit for every three bits begun"
abbrev pub digits_of : ℕ → ℕ
digits_of width = (width + 2) / 3

-- the values of the registers, in their order
abbrev pub values : Machine → List ℕ
values m = m.lac ∷ m.pc ∷ m.run ∷ m.enable ∷ m.request ∷ m.switches ∷ []

-- and the registers that have such values
abbrev pub machine_of : List ℕ → Machine
machine_of l =
    record { lac = get_or l 0 0; pc = get_or l 1 0; run = get_or l 2 0; enable = get_or l 3 0; request = get_or l 4 0; switches = get_or l 5 0 }
