-- What a line of an inquiry says, its LF aside: a line of an image as for the day listing, one of the "optional lines for machine
-- registers (name, TAB, octal) and `budget`, TAB, decimal", or, for a run with devices, one of a device register or of the input.
-- Assumes nothing.
use Rattle.std.specs.Prelude.{List, Bool, true, false, ◌&&◌, ℕ, length, get_or, leb, ltb, Option, Some, None, is_some}
use Rattle.word.specs.Word.{fits}
use Rattle.state.specs.Limits.{budget_limit}
use Rattle.machine_state.specs.Registers.{digits_of}
use Rattle.characters.specs.Ascii.{ascii}
use Rattle.characters.specs.Characters.{same}
use Rattle.text_constants.specs.Constants.{number_at}
use Rattle.text_fields.specs.Fields.{field, has_fields}
use Rattle.desk_image.specs.Input.{is_digits, is_octal_word, octal_word}
use Rattle.characters.specs.Named.{find, among}
use Rattle.characters.specs.declared.Class.TheVariants.{Octal, Decimal}
use Rattle.desk_registers.specs.Registers.{desk_registers, desk_widths}
use Rattle.desk_entry.specs.Octets.{octets_in, is_input}
use Rattle.desk_entry.specs.declared.Entry.{Entry}
use Rattle.desk_entry.specs.declared.Entry.TheVariants.{Word, Register, Budget, Input}

-- "four-digit octal address, TAB, four-digit octal word"
unfoldable pub word_entry : List ℕ → List ℕ → Option Entry
word_entry address word =
    elim (is_octal_word address && is_octal_word word) [ true ↦ Some (Word (octal_word address) (octal_word word)) | false ↦ None ]

-- a register's value "in exactly as many octal digits as the output has for it, .. that fits the register's width"
unfoldable pub register_entry : ℕ → ℕ → List ℕ → Option Entry
register_entry place width value =
    elim (is_digits Octal (digits_of width) value && fits width (number_at 8 value 0 (digits_of width) 0)) [
      | true ↦ Some (Register place (number_at 8 value 0 (digits_of width) 0))
      | false ↦ None
    ]

abbrev pub budget_digits : ℕ
budget_digits = 7

-- "a decimal number of 1 to 7 digits, at most 1,000,000"
unfoldable pub budget_entry : List ℕ → Option Entry
budget_entry value =
    elim (ltb 0 (length value) && leb (length value) budget_digits && is_digits Decimal (length value) value
    && leb (number_at 10 value 0 (length value) 0) budget_limit) [
      | true ↦ Some (Budget (number_at 10 value 0 (length value) 0))
      | false ↦ None
    ]

-- "1 to 64 bytes in three octal digits each, parted by one space": how many
unfoldable pub input_entry : List ℕ → Option Entry
input_entry value = elim (is_input value) [ true ↦ Some (Input (octets_in value)) | false ↦ None ]

-- a line of two fields, by its first
unfoldable pub said : List ℕ → List ℕ → Option Entry
said name value =
    elim (same name (ascii "budget")) [
      | true ↦ budget_entry value
      | false ↦
          elim (same name (ascii "input")) [
            | true ↦ input_entry value
            | false ↦
                elim (among name desk_registers) [
                  | true ↦ register_entry (find name desk_registers) (get_or desk_widths (find name desk_registers) 0) value
                  | false ↦ word_entry name value
                ]
          ]
    ]

-- what a line says; "Any other line is unfit"
unfoldable pub entry : List ℕ → Option Entry
entry line = elim (has_fields 2 line) [ true ↦ said (field 0 line) (field 1 line) | false ↦ None ]

-- whether it is fit
abbrev pub is_fit : Option Entry → Bool
is_fit said = is_some said
