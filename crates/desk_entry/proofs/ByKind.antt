-- A line by its kinds: what holds of an unfit line, and of each kind of fit one, holds of what any line says.
-- Assumes nothing.
use mathlib.Core.Path.{◌≡◌}
use mathlib.Core.Bool.{true, ◌&&◌}
use mathlib.Core.List.{List}
use Prim.Native.Nat.{ℕ, ◌+◌, ◌*◌, ◌≤◌, ◌<◌}
use lib.Dec.{eqb, leb, ltb}
use lib.ListN.{length, get_or}
use borrow.Author.Tests.{eqb-true, ltb-true, leb-true}
use Rattle.word.specs.Word.{fits}
use Rattle.state.specs.Limits.{budget_limit}
use Rattle.machine_state.specs.Registers.{digits_of}
use Rattle.characters.specs.Ascii.{ascii}
use Rattle.characters.specs.Characters.{same}
use Rattle.text_constants.specs.Constants.{number_at}
use Rattle.text_fields.specs.Fields.{field, has_fields}
use Rattle.characters.specs.Named.{find}
use Rattle.characters.specs.declared.Class.TheVariants.{Octal, Decimal}
use Rattle.laws.proofs.Tests.{by_case}
use Rattle.laws.proofs.Joined.{and_left, and_right}
use Rattle.desk_image.specs.Input.{is_digits, is_octal_word, octal_word}
use Rattle.desk_registers.specs.Registers.{desk_registers, desk_widths}
use Rattle.desk_entry.specs.Octets.{input_bytes, octets_in, are_octets, is_input, Bytes}
use Rattle.desk_entry.specs.Lines.{budget_digits, word_entry, register_entry, budget_entry, input_entry, said, entry}
use Rattle.desk_entry.specs.declared.Entry.{Entry}
use Rattle.desk_entry.specs.declared.Entry.TheVariants.{Word, Register, Budget, Input}
use Rattle.std.specs.Prelude.{Option, Some, None}

-- a property of each kind of line of two fields, by what is known of them
pub record Each (P : Option Entry → Type 0) (name value : List ℕ) : Type 0 where
  pub word : is_octal_word name ≡ true → is_octal_word value ≡ true → P (Some (Word (octal_word name) (octal_word value)))
  pub register :
      let place = find name desk_registers in
      let width = get_or desk_widths place 0 in
      let number = number_at 8 value 0 (digits_of width) 0 in
      place < length desk_registers → is_digits Octal (digits_of width) value ≡ true → fits width number ≡ true → P (Some (Register place number))
  pub budget :
      let steps = number_at 10 value 0 (length value) 0 in
      same name (ascii "budget") ≡ true → length value ≤ budget_digits → steps ≤ budget_limit → P (Some (Budget steps))
  pub input : same name (ascii "input") ≡ true → Bytes value (octets_in value) → P (Some (Input (octets_in value)))

module _ (P : Option Entry → Type 0) (unfit : P None) where
  by_word : (name value : List ℕ) → Each P name value → P (word_entry name value)
  unfolding word_entry
  by_word name value each =
      let first = is_octal_word name in
      let second = is_octal_word value in
      by_case P (first && second) (λ t. each.word (and_left first second t) (and_right first second t)) (λ t. unfit)

  by_register : (name value : List ℕ) → Each P name value → find name desk_registers < length desk_registers
      → P (register_entry (find name desk_registers) (get_or desk_widths (find name desk_registers) 0) value)
  unfolding register_entry
  by_register name value each h =
      let width = get_or desk_widths (find name desk_registers) 0 in
      let digits = is_digits Octal (digits_of width) value in
      let narrow = fits width (number_at 8 value 0 (digits_of width) 0) in
      by_case P (digits && narrow) (λ t. each.register h (and_left digits narrow t) (and_right digits narrow t)) (λ t. unfit)

  by_budget : (name value : List ℕ) → Each P name value → same name (ascii "budget") ≡ true → P (budget_entry value)
  unfolding budget_entry
  by_budget name value each h =
      let few = leb (length value) budget_digits in
      let some = ltb 0 (length value) && few in
      let digits = is_digits Decimal (length value) value in
      let small = leb (number_at 10 value 0 (length value) 0) budget_limit in
      by_case P (some && digits && small)
      (λ t.
      let short = and_right (ltb 0 (length value)) few (and_left some digits (and_left (some && digits) small t)) in
      each.budget h (leb-true _ _ short) (leb-true _ _ (and_right (some && digits) small t)))
      (λ t. unfit)

  by_input : (name value : List ℕ) → Each P name value → same name (ascii "input") ≡ true → P (input_entry value)
  unfolding input_entry is_input
  by_input name value each h =
      let n = octets_in value in
      let whole = eqb (4 * n) (length value + 1) in
      let few = leb n input_bytes in
      by_case P (whole && few && are_octets value n)
      (λ t.
      let both = and_left (whole && few) (are_octets value n) t in
      each.input h (record {
        whole = eqb-true _ _ (and_left whole few both);
        few = leb-true _ _ (and_right whole few both);
        each = and_right (whole && few) (are_octets value n) t;
      }))
      (λ t. unfit)

  by_fields : (name value : List ℕ) → Each P name value → P (said name value)
  unfolding said
  by_fields name value each =
      let place = find name desk_registers in
      by_case P (same name (ascii "budget"))
      (λ t. by_budget name value each t)
      (λ t.
      by_case P (same name (ascii "input"))
      (λ u. by_input name value each u)
      (λ u. by_case P (ltb place (length desk_registers)) (λ v. by_register name value each (ltb-true _ _ v)) (λ v. by_word name value each)))

  pub by_entry : (line : List ℕ) → (has_fields 2 line ≡ true → Each P (field 0 line) (field 1 line)) → P (entry line)
  unfolding entry
  by_entry line each = by_case P (has_fields 2 line) (λ t. by_fields (field 0 line) (field 1 line) (each t)) (λ t. unfit)
