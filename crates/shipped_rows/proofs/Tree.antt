-- The trees of the shipped descriptions: registers and rows over the variant. Rows are named from each label on to the last, and so from some other rows on that a proof
-- begins with; how many rows a `go` passes over follows from where its label stands.
-- Nobody has to believe it: `shipped_accepted` computes that the reader reads the shipped texts as these.
-- Assumes nothing.
use mathlib.Core.List.{List, [], ◌∷◌, ◌++◌}
use Prim.Native.Nat.{ℕ, ◌+◌, ◌-◌}
use lib.ListN.{length}
use Rattle.word.specs.Word.{word_bits}
use Rattle.characters.specs.Ascii.{ascii}
use Rattle.characters.specs.Named.{Named}
use Rattle.devices.specs.Devices.{byte_bits}
use Rattle.machine_state.specs.State.{lac_bits}
use Rattle.text_operators.specs.declared.Operator.TheVariants.{Join, RotateLeft, RotateRight, Add, Equal, And, Or}
use Rattle.text_code.specs.Tree.{Expr, Destination, register, bit_part, constant, memory, complemented, rotated, binary, to_register, to_part, to_memory}
use Rattle.text_declaration.specs.Rows.{Row, does, goes, Description}
use Rattle.shipped_rows.specs.Variant.{Variant, plain, devices, registers_of}

-- "A shipped description's registers that the emulator lacks are its working registers": they follow the machine's
abbrev pub working_registers : List Named
working_registers =
    record { name = ascii "i"; number = word_bits }
    ∷ record { name = ascii "last.pc"; number = word_bits }
    ∷ record { name = ascii "eadd"; number = word_bits }
    ∷ record { name = ascii "skip"; number = 1 }
    ∷ []

-- the place of the k-th of them
abbrev pub work_at : Variant → ℕ → ℕ
work_at v k = length (registers_of v) + k

-- a row that goes to the rows of a label, which stand below among the rest
abbrev pub go_to : Expr → List Row → List Row → List Row
go_to c label rest = goes c (length rest - length label) ∷ rest

-- ---- the machine registers, as they are read and written

abbrev pub lac : Expr
lac = register 0 lac_bits

abbrev ac : Expr
ac = bit_part 0 lac_bits 1 12

abbrev link : Expr
link = bit_part 0 lac_bits 0 0

abbrev sign : Expr
sign = bit_part 0 lac_bits 1 1

abbrev pc : Expr
pc = register 1 word_bits

abbrev enable : Expr
enable = register 3 1

abbrev request : Expr
request = register 4 1

abbrev switches : Expr
switches = register 5 word_bits

abbrev pub to_lac : Destination
to_lac = to_register 0 lac_bits

abbrev to_ac : Destination
to_ac = to_part 0 lac_bits 1 12

abbrev to_link : Destination
to_link = to_part 0 lac_bits 0 0

abbrev to_pc : Destination
to_pc = to_register 1 word_bits

abbrev to_run : Destination
to_run = to_register 2 1

abbrev to_enable : Destination
to_enable = to_register 3 1

abbrev to_request : Destination
to_request = to_register 4 1

abbrev pub one : Expr
one = constant 2 1

abbrev nought : Expr
nought = constant 2 0

-- ---- the rows that only some variants have, before the rest

-- the devices' registers
abbrev key_byte : Expr
key_byte = register 6 byte_bits

abbrev keyboard_flag : Expr
keyboard_flag = register 7 1

abbrev printer_flag : Expr
printer_flag = register 8 1

abbrev to_keyboard_flag : Destination
to_keyboard_flag = to_register 7 1

abbrev to_printer_flag : Destination
to_printer_flag = to_register 8 1

abbrev to_print_byte : Destination
to_print_byte = to_register 9 byte_bits

abbrev to_print_mark : Destination
to_print_mark = to_register 10 1

-- AC<4:11>
abbrev ac_byte : Expr
ac_byte = bit_part 0 lac_bits 5 12

abbrev to_ac_byte : Destination
to_ac_byte = to_part 0 lac_bits 5 12

-- whether i is a word, and whether it is one of two
abbrev is_word : ℕ → Expr
is_word n = binary Equal (register (work_at devices 0) word_bits) (constant 12 n)

abbrev is_either : ℕ → ℕ → Expr
is_either m n = binary Or (is_word m) (is_word n)

-- the words of keyboard and teleprinter
abbrev pub rows·devices : Variant → List Row → List Row
rows·devices plain rest = rest
rows·devices devices rest =
    does (binary Or (binary And (is_word 0o6031) keyboard_flag) (binary And (is_word 0o6041) printer_flag)) to_pc (binary Add pc one)
    ∷ does (is_either 0o6032 0o6036) to_ac nought
    ∷ does (is_either 0o6032 0o6036) to_keyboard_flag nought
    ∷ does (is_either 0o6034 0o6036) to_ac_byte (binary Or ac_byte key_byte)
    ∷ does (is_either 0o6042 0o6046) to_printer_flag nought
    ∷ does (is_either 0o6044 0o6046) to_print_byte ac_byte
    ∷ does (is_either 0o6044 0o6046) to_print_mark one
    ∷ rest

-- INTERRUPT.REQUEST by the devices' flags
abbrev pub rows·request : Variant → List Row → List Row
rows·request plain rest = rest
rows·request devices rest = does one to_request (binary Or keyboard_flag printer_flag) ∷ rest

module _ (v : Variant) where
  -- ---- the working registers, by their places

  abbrev pub i : Expr
  i = register (work_at v 0) word_bits

  abbrev pub i_bits : ℕ → ℕ → Expr
  i_bits a b = bit_part (work_at v 0) word_bits a b

  abbrev pub i_bit : ℕ → Expr
  i_bit k = i_bits k k

  abbrev pub op : Expr
  op = i_bits 0 2

  abbrev pub pa : Expr
  pa = i_bits 5 11

  abbrev pub last_page : Expr
  last_page = bit_part (work_at v 1) word_bits 0 4

  abbrev pub eadd : Expr
  eadd = register (work_at v 2) word_bits

  abbrev pub skip : Expr
  skip = register (work_at v 3) 1

  -- the skip, turned round
  abbrev pub reversed_skip : Expr
  reversed_skip = complemented skip

  abbrev pub to_i : Destination
  to_i = to_register (work_at v 0) word_bits

  abbrev pub to_last : Destination
  to_last = to_register (work_at v 1) word_bits

  abbrev pub to_eadd : Destination
  to_eadd = to_register (work_at v 2) word_bits

  abbrev pub to_skip : Destination
  to_skip = to_register (work_at v 3) 1

  -- ---- the rows

  abbrev pub rows·restart : List Row
  rows·restart = []

  abbrev pub rows·taken : List Row
  rows·taken =
      does one (to_memory nought) pc
      ∷ does one to_pc one
      ∷ does one to_enable nought
      ∷ rows·restart

  abbrev pub rows·requested : List Row
  rows·requested = go_to (complemented request) rows·restart rows·taken

  abbrev pub rows·enabled : List Row
  rows·enabled = go_to (complemented enable) rows·restart rows·requested

  abbrev pub rows·interrupt : List Row
  rows·interrupt = rows·request v rows·enabled

  abbrev pub rows·group3 : List Row
  rows·group3 =
      does (i_bit 4) to_ac nought
      ∷ rows·interrupt

  -- the second group's end where it does not halt
  abbrev pub rows·runs : List Row
  rows·runs = go_to one rows·interrupt rows·group3

  -- its rows once the skip is decided
  abbrev pub rows·decided : List Row
  rows·decided =
      does skip to_pc (binary Add pc one)
      ∷ does (i_bit 4) to_ac nought
      ∷ does (i_bit 9) to_ac (binary Or ac switches)
      ∷ does (i_bit 10) to_run nought
      ∷ go_to (i_bit 10) rows·restart rows·runs

  -- the second group, which the third is told from: the conditions of bits 5 to 7, and bit 8, which turns the skip round
  abbrev pub rows·second : List Row
  rows·second =
      does one to_skip nought
      ∷ does (binary And (i_bit 5) sign) to_skip one
      ∷ does (binary And (i_bit 6) (binary Equal ac nought)) to_skip one
      ∷ does (binary And (i_bit 7) link) to_skip one
      ∷ does (i_bit 8) to_skip reversed_skip
      ∷ rows·decided

  abbrev pub rows·group2 : List Row
  rows·group2 = go_to (i_bit 11) rows·group3 rows·second

  -- LAC rotated by n places, left and right, and on to the interrupt test
  abbrev pub rotates : ℕ → List Row → List Row
  rotates n rest =
      does (i_bit 9) to_lac (rotated RotateLeft lac n)
      ∷ does (i_bit 8) to_lac (rotated RotateRight lac n)
      ∷ go_to one rows·interrupt rest

  abbrev pub rows·twice : List Row
  rows·twice = rotates 2 rows·group2

  abbrev pub rows·group1 : List Row
  rows·group1 =
      does (i_bit 4) to_ac nought
      ∷ does (i_bit 5) to_link nought
      ∷ does (i_bit 6) to_ac (complemented ac)
      ∷ does (i_bit 7) to_link (complemented link)
      ∷ does (i_bit 11) to_lac (binary Add lac one)
      ∷ go_to (i_bit 10) rows·twice (rotates 1 rows·twice)

  abbrev pub rows·opr : List Row
  rows·opr = go_to (i_bit 3) rows·group2 rows·group1

  -- op 6 past 6001
  abbrev pub rows·iof : List Row
  rows·iof =
      does (binary Equal i (constant 12 0o6002)) to_enable nought
      ∷ rows·devices v (go_to one rows·interrupt rows·opr)

  abbrev pub rows·iot : List Row
  rows·iot =
      does (binary Equal i (constant 12 0o6001)) to_enable one
      ∷ go_to (binary Equal i (constant 12 0o6001)) rows·restart rows·iof

  abbrev pub rows·jms : List Row
  rows·jms =
      does one (to_memory eadd) pc
      ∷ does one to_pc (binary Add eadd one)
      ∷ go_to one rows·interrupt rows·iot

  abbrev pub rows·dca : List Row
  rows·dca =
      does one (to_memory eadd) ac
      ∷ does one to_ac nought
      ∷ go_to one rows·interrupt rows·jms

  abbrev pub rows·isz : List Row
  rows·isz =
      does one (to_memory eadd) (binary Add (memory eadd) one)
      ∷ does (binary Equal (memory eadd) nought) to_pc (binary Add pc one)
      ∷ go_to one rows·interrupt rows·dca

  abbrev pub rows·tad : List Row
  rows·tad =
      does one to_lac (binary Add lac (memory eadd))
      ∷ go_to one rows·interrupt rows·isz

  abbrev pub rows·and : List Row
  rows·and =
      does one to_ac (binary And ac (memory eadd))
      ∷ go_to one rows·interrupt rows·tad

  abbrev pub rows·jmp : List Row
  rows·jmp =
      does one to_pc eadd
      ∷ go_to one rows·interrupt rows·and

  abbrev pub rows·execute : List Row
  rows·execute =
      go_to (binary Equal op (constant 3 0)) rows·and (
      go_to (binary Equal op (constant 3 1)) rows·tad (
      go_to (binary Equal op (constant 3 2)) rows·isz (
      go_to (binary Equal op (constant 3 3)) rows·dca (
      go_to (binary Equal op (constant 3 4)) rows·jms rows·jmp))))

  abbrev pub rows·address : List Row
  rows·address =
      does one to_eadd (binary Join (constant 5 0) pa)
      ∷ does (i_bit 4) to_eadd (binary Join last_page pa)
      ∷ go_to (complemented (i_bit 3)) rows·execute (
      does (binary Equal (bit_part (work_at v 2) word_bits 0 8) (constant 9 1)) (to_memory eadd) (binary Add (memory eadd) one)
      ∷ does one to_eadd (memory eadd)
      ∷ rows·execute)

  abbrev pub rows·decode : List Row
  rows·decode =
      go_to (binary Equal op (constant 3 6)) rows·iot (
      go_to (binary Equal op (constant 3 7)) rows·opr rows·address)

  abbrev pub rows·fetch : List Row
  rows·fetch =
      does one to_i (memory pc)
      ∷ does one to_last pc
      ∷ does one to_pc (binary Add pc one)
      ∷ rows·decode

  abbrev pub tree : Description
  tree = record { registers = registers_of v ++ working_registers; rows = rows·fetch }
