-- "Op 7": its three groups, each in the order in which document 01 names what the bits do.
-- Assumes nothing.
use Rattle.std.specs.Prelude.{ℕ, ◌+◌, ◌%◌, ◌^◌, Bool, not, ◌&&◌, ◌||◌}
use Rattle.std.specs.Int.Bits.{bit_or}
use Rattle.word.specs.Choice.{on, pick}
use Rattle.word.specs.Word.{word_bits, bits, complement, rotated_left, rotated_right, next}
use Rattle.machine_state.specs.State.{State, lac_bits, with_lac, with_pc, with_run, link, ac, with_link, with_ac}
use Rattle.machine_state.specs.Instruction.{flag}

-- ---- "Op 7, bit 3 = 0", on LAC

-- "Bit 4 clears AC" (in all three groups)
abbrev pub cleared : ℕ → ℕ → ℕ
cleared i lac = pick (on (flag 4 i)) (with_ac lac 0) lac

-- "bit 5 clears L"
abbrev pub link_cleared : ℕ → ℕ → ℕ
link_cleared i lac = pick (on (flag 5 i)) (with_link lac 0) lac

-- "then bit 6 complements AC"
abbrev pub complemented : ℕ → ℕ → ℕ
complemented i lac = pick (on (flag 6 i)) (with_ac lac (complement word_bits (ac lac))) lac

-- "bit 7 complements L"
abbrev pub link_complemented : ℕ → ℕ → ℕ
link_complemented i lac = pick (on (flag 7 i)) (with_link lac (complement 1 (link lac))) lac

-- "then bit 11 adds 1 to LAC modulo 8,192"
abbrev pub increased : ℕ → ℕ → ℕ
increased i lac = pick (on (flag 11 i)) ((lac + 1) % 2 ^ lac_bits) lac

-- "by one place, or two if bit 10 is 1"
abbrev pub places : ℕ → ℕ
places i = pick (on (flag 10 i)) 2 1

-- "then bit 9 rotates LAC left"
abbrev pub left_rotated : ℕ → ℕ → ℕ
left_rotated i lac = pick (on (flag 9 i)) (rotated_left lac_bits (places i) lac) lac

-- "and after it bit 8 rotates it right"
abbrev pub right_rotated : ℕ → ℕ → ℕ
right_rotated i lac = pick (on (flag 8 i)) (rotated_right lac_bits (places i) lac) lac

unfoldable pub rotated : ℕ → ℕ → ℕ
rotated i lac = right_rotated i (left_rotated i lac)

unfoldable pub changed : ℕ → ℕ → ℕ
changed i lac = increased i (link_complemented i (complemented i (link_cleared i (cleared i lac))))

unfoldable pub group1 : ℕ → State → State
group1 i s = with_lac (rotated i (changed i s.lac)) s

-- ---- "Op 7, bit 3 = 1, bit 11 = 0"

-- AC<0>
abbrev pub sign : ℕ → ℕ
sign lac = bits lac_bits 1 1 lac

-- "Bit 8 = 0: skip if any selected condition holds: bit 5 AC<0> = 1, bit 6 AC = 0, bit 7 L = 1"
abbrev pub skips_plain : ℕ → ℕ → Bool
skips_plain i lac = (on (flag 5 i) && on (sign lac)) || (on (flag 6 i) && not (on (ac lac))) || (on (flag 7 i) && on (link lac))

-- "Bit 8 = 1: .. bit 5 AC<0> = 0, bit 6 AC not 0, bit 7 L = 0"; document 02, Three: "all selected conditions must hold; none selected still skips"
abbrev pub skips_reversed : ℕ → ℕ → Bool
skips_reversed i lac =
    (not (on (flag 5 i)) || not (on (sign lac))) && (not (on (flag 6 i)) || on (ac lac)) && (not (on (flag 7 i)) || not (on (link lac)))

unfoldable pub skips : ℕ → ℕ → Bool
skips i lac = pick (on (flag 8 i)) (skips_reversed i lac) (skips_plain i lac)

-- "then bit 9 ors SWITCHES into AC"
abbrev pub switched : ℕ → ℕ → ℕ → ℕ
switched i switches lac = pick (on (flag 9 i)) (with_ac lac (bit_or (ac lac) switches)) lac

-- "First the skip. .. Then bit 4 clears AC; then bit 9 ors SWITCHES into AC and bit 10 sets RUN to 0"
unfoldable pub group2 : ℕ → State → State
group2 i s =
    with_pc (pick (skips i s.lac) (next s.pc) s.pc)
    (with_lac (switched i s.switches (cleared i s.lac))
    (with_run (pick (on (flag 10 i)) 0 s.run) s))

-- whether an instruction of op 7 sets RUN to 0
unfoldable pub clears_run : ℕ → Bool
clears_run i = on (flag 3 i) && not (on (flag 11 i)) && on (flag 10 i)

-- ---- "With bit 11 = 1 bit 4 clears AC, and that is all"

unfoldable pub group3 : ℕ → State → State
group3 i s = with_lac (cleared i s.lac) s

unfoldable pub operate : ℕ → State → State
operate i s = pick (on (flag 3 i)) (pick (on (flag 11 i)) (group3 i s) (group2 i s)) (group1 i s)
