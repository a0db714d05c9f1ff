-- README's table of op 7, bit by bit: the names that the definition's masks and codes give are those, of every instruction of op 7. And a few mnemonics as they are written.
-- Assumes nothing.
use mathlib.Core.Path.{◌≡◌, refl}
use mathlib.Core.Bool.{Bool, true, false}
use mathlib.Core.List.{List, [], ◌∷◌, ◌++◌, map}
use Prim.Native.Nat.{ℕ, zero, suc, ◌+◌}
use Rattle.word.specs.Choice.{on, pick}
use Rattle.word.specs.Word.{word_bits, bits}
use Rattle.machine_state.specs.Instruction.{flag}
use Rattle.machine_reference.specs.Address.{first_address}
use Rattle.characters.specs.Ascii.{ascii}
use Rattle.page.specs.Text.{octal}
use Rattle.desk_mnemonics.specs.Mnemonics.{names, device_names, handbook, names_of, spaced, mnemonic}

-- "a name for each bit that selects something"
abbrev for : ℕ → ℕ → List ℕ → List (List ℕ)
for k i name = pick (on (flag k i)) (name ∷ []) []

-- "bit 3 = 0"
abbrev group1 : ℕ → List (List ℕ)
group1 i =
    for 4 i (ascii "CLA") ++ for 5 i (ascii "CLL") ++ for 6 i (ascii "CMA") ++ for 7 i (ascii "CML") ++ for 11 i (ascii "IAC")
    ++ for 9 i (pick (on (flag 10 i)) (ascii "RTL") (ascii "RAL"))
    ++ for 8 i (pick (on (flag 10 i)) (ascii "RTR") (ascii "RAR"))

-- "bit 3 = 1, bit 11 = 0": "or `SKP` where none of these three is 1"
abbrev skips : ℕ → List (List ℕ)
skips i =
    pick (on (flag 8 i))
    (pick (on (bits word_bits 5 7 i)) (for 5 i (ascii "SPA") ++ for 6 i (ascii "SNA") ++ for 7 i (ascii "SZL")) (ascii "SKP" ∷ []))
    (for 5 i (ascii "SMA") ++ for 6 i (ascii "SZA") ++ for 7 i (ascii "SNL"))

abbrev group2 : ℕ → List (List ℕ)
group2 i = skips i ++ for 4 i (ascii "CLA") ++ for 9 i (ascii "OSR") ++ for 10 i (ascii "HLT")

-- "bit 3 = 1, bit 11 = 1"
abbrev group3 : ℕ → List (List ℕ)
group3 i = for 4 i (ascii "CLA")

abbrev by_bits : ℕ → List (List ℕ)
by_bits i = pick (on (flag 3 i)) (pick (on (flag 11 i)) (group3 i) (group2 i)) (group1 i)

-- n numbers from a first on, the greatest first: 512 from 7000 on are the instructions of op 7
abbrev below : ℕ → ℕ → List ℕ
below first zero = []
below first (suc n) = (first + n) ∷ below first n

pub op7_names : (devices : Bool) → map (λ (i : ℕ). names_of i (handbook devices)) (below 0o7000 512) ≡ map by_bits (below 0o7000 512)
unfolding names device_names names_of
op7_names true = refl
op7_names false = refl

pub written : map (λ (i : ℕ). mnemonic false i 0o250) (0o3250 ∷ 0o1420 ∷ 0o5610 ∷ 0o6001 ∷ 0o6002 ∷ 0o6046 ∷ 0o7000 ∷ 0o7002 ∷ 0o7012 ∷ 0o7014 ∷ 0o7300 ∷ 0o7402 ∷ 0o7410 ∷ 0o7601 ∷ [])
    ≡ ascii "DCA 0250" ∷ ascii "TAD I 0020" ∷ ascii "JMP I 0210" ∷ ascii "ION" ∷ ascii "IOF" ∷ ascii "IOT" ∷ ascii "NOP" ∷ ascii "NOP" ∷ ascii "RTR"
    ∷ ascii "RAL RAR" ∷ ascii "CLA CLL" ∷ ascii "HLT" ∷ ascii "SKP" ∷ ascii "CLA" ∷ []
unfolding first_address octal names names_of spaced mnemonic
written = refl

-- with devices: the eight words, and no other of devices 03 and 04
pub device_words : map (λ (i : ℕ). mnemonic true i 0o250) (0o6031 ∷ 0o6032 ∷ 0o6034 ∷ 0o6036 ∷ 0o6041 ∷ 0o6042 ∷ 0o6044 ∷ 0o6046 ∷ 0o6030 ∷ 0o6037 ∷ 0o6047 ∷ 0o6001 ∷ 0o3250 ∷ 0o7402 ∷ [])
    ≡ ascii "KSF" ∷ ascii "KCC" ∷ ascii "KRS" ∷ ascii "KRB" ∷ ascii "TSF" ∷ ascii "TCF" ∷ ascii "TPC" ∷ ascii "TLS" ∷ ascii "IOT" ∷ ascii "IOT"
    ∷ ascii "IOT" ∷ ascii "ION" ∷ ascii "DCA 0250" ∷ ascii "HLT" ∷ []
unfolding first_address octal names device_names names_of spaced mnemonic
device_words = refl
