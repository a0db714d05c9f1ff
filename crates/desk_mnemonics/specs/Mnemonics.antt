-- Mnemonics: "the handbook's names" of an instruction. The sentences quoted are README's, of "Explain a run".
-- Assumes nothing.
use Rattle.std.specs.Prelude.{Bool, true, false, List, [], ◌∷◌, ◌++◌, ℕ, eqb, ltb}
use Rattle.std.specs.Int.Bits.{bit_and}
use Rattle.word.specs.Choice.{pick, on}
use Rattle.machine_state.specs.Instruction.{op, ib}
use Rattle.machine_reference.specs.Address.{first_address}
use Rattle.characters.specs.Ascii.{ascii, byte_of}
use Rattle.page.specs.Text.{octal}
use Rattle.desk_mnemonics.specs.declared.Name.{Name}

-- The names, "in this order": each with the bits that it goes by, and with its code in the handbook, which has these bits as they are in every instruction of
-- that name. Bit 3 is 0400, bit 4 0200, bit 5 0100, bit 6 0040, bit 7 0020, bit 8 0010, bit 9 0004, bit 10 0002 and bit 11 0001.
unfoldable pub names : List Name
names =
    -- ops 0 to 5
    record { mask = 0o7000; code = 0o0000; letters = ascii "AND" }
    ∷ record { mask = 0o7000; code = 0o1000; letters = ascii "TAD" }
    ∷ record { mask = 0o7000; code = 0o2000; letters = ascii "ISZ" }
    ∷ record { mask = 0o7000; code = 0o3000; letters = ascii "DCA" }
    ∷ record { mask = 0o7000; code = 0o4000; letters = ascii "JMS" }
    ∷ record { mask = 0o7000; code = 0o5000; letters = ascii "JMP" }
    -- op 6
    ∷ record { mask = 0o7777; code = 0o6001; letters = ascii "ION" }
    ∷ record { mask = 0o7777; code = 0o6002; letters = ascii "IOF" }
    -- bit 3 = 0
    ∷ record { mask = 0o7600; code = 0o7200; letters = ascii "CLA" }
    ∷ record { mask = 0o7500; code = 0o7100; letters = ascii "CLL" }
    ∷ record { mask = 0o7440; code = 0o7040; letters = ascii "CMA" }
    ∷ record { mask = 0o7420; code = 0o7020; letters = ascii "CML" }
    ∷ record { mask = 0o7401; code = 0o7001; letters = ascii "IAC" }
    ∷ record { mask = 0o7406; code = 0o7004; letters = ascii "RAL" }
    ∷ record { mask = 0o7406; code = 0o7006; letters = ascii "RTL" }
    ∷ record { mask = 0o7412; code = 0o7010; letters = ascii "RAR" }
    ∷ record { mask = 0o7412; code = 0o7012; letters = ascii "RTR" }
    -- bit 3 = 1, bit 11 = 0
    ∷ record { mask = 0o7511; code = 0o7500; letters = ascii "SMA" }
    ∷ record { mask = 0o7451; code = 0o7440; letters = ascii "SZA" }
    ∷ record { mask = 0o7431; code = 0o7420; letters = ascii "SNL" }
    ∷ record { mask = 0o7511; code = 0o7510; letters = ascii "SPA" }
    ∷ record { mask = 0o7451; code = 0o7450; letters = ascii "SNA" }
    ∷ record { mask = 0o7431; code = 0o7430; letters = ascii "SZL" }
    ∷ record { mask = 0o7571; code = 0o7410; letters = ascii "SKP" }
    ∷ record { mask = 0o7601; code = 0o7600; letters = ascii "CLA" }
    ∷ record { mask = 0o7405; code = 0o7404; letters = ascii "OSR" }
    ∷ record { mask = 0o7403; code = 0o7402; letters = ascii "HLT" }
    -- bit 3 = 1, bit 11 = 1
    ∷ record { mask = 0o7601; code = 0o7601; letters = ascii "CLA" }
    ∷ []

-- with devices, the eight words of keyboard and teleprinter, too
unfoldable pub device_names : List Name
device_names =
    record { mask = 0o7777; code = 0o6031; letters = ascii "KSF" }
    ∷ record { mask = 0o7777; code = 0o6032; letters = ascii "KCC" }
    ∷ record { mask = 0o7777; code = 0o6034; letters = ascii "KRS" }
    ∷ record { mask = 0o7777; code = 0o6036; letters = ascii "KRB" }
    ∷ record { mask = 0o7777; code = 0o6041; letters = ascii "TSF" }
    ∷ record { mask = 0o7777; code = 0o6042; letters = ascii "TCF" }
    ∷ record { mask = 0o7777; code = 0o6044; letters = ascii "TPC" }
    ∷ record { mask = 0o7777; code = 0o6046; letters = ascii "TLS" }
    ∷ []

-- the names of a machine, by whether it has devices
abbrev pub handbook : Bool → List Name
handbook true = names ++ device_names
handbook false = names

-- whether an instruction has a name
abbrev pub is_named : ℕ → Name → Bool
is_named i n = eqb (bit_and i n.mask) n.code

-- those that it has
unfoldable pub names_of : ℕ → List Name → List (List ℕ)
names_of i [] = []
names_of i (n ∷ ns) = pick (is_named i n) (n.letters ∷ []) [] ++ names_of i ns

-- "any other of op 6 `IOT`"; "`NOP` where no bit does"
abbrev pub unnamed : ℕ → List ℕ
unnamed i = pick (eqb (op i) 6) (ascii "IOT") (ascii "NOP")

abbrev pub space : ℕ
space = byte_of " "

-- each behind a space
unfoldable pub spaced : List (List ℕ) → List ℕ
spaced [] = []
spaced (w ∷ ws) = space ∷ w ++ spaced ws

-- "parted by one space", and what stands where there is none
abbrev pub parted : List ℕ → List (List ℕ) → List ℕ
parted none [] = none
parted none (w ∷ ws) = w ++ spaced ws

-- "then `I` if ib is 1, then the first address in four octal digits, page and page address joined, before indirection"
abbrev pub operand : ℕ → ℕ → List ℕ
operand i last = pick (on (ib i)) (ascii " I ") (ascii " ") ++ octal 4 (first_address i last)

-- the mnemonic of the instruction i that was fetched from `last`, with devices or without; "Ops 0 to 5" have an operand
unfoldable pub mnemonic : Bool → ℕ → ℕ → List ℕ
mnemonic devices i last = parted (unnamed i) (names_of i (handbook devices)) ++ pick (ltb (op i) 6) (operand i last) []
