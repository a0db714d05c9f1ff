-- The bytes that a draft needs for a mnemonic. A reader need not believe these.
-- Assumes nothing.
use Rattle.std.specs.Prelude.{ℕ}

-- the most bytes that a name behind its mark has, all names, and the operand
abbrev pub name_bytes : ℕ
name_bytes = 4

abbrev pub names_bytes : ℕ
names_bytes = 148

abbrev pub operand_bytes : ℕ
operand_bytes = 7

-- the most that a mnemonic behind a TAB has
abbrev pub mnemonic_bytes : ℕ
mnemonic_bytes = 155
