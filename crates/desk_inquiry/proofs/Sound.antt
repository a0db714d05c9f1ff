-- What a text asks for is a state that no check turns down: every value keeps its width, the budget its limit.
-- Assumes nothing.
use Rattle.std.proofs.Common.{ℕ, ◌^◌, ◌<◌, ◌≤◌, List, get_or, refl, arith, ltb-true}
use Rattle.word.specs.Word.{word_bits}
use Rattle.state.specs.Limits.{budget_limit}
use Rattle.state.specs.Checks.{first_too_wide}
use Rattle.state.specs.Acceptable.{Acceptable, Fitting}
use Rattle.state.proofs.Accepted.{registers_fitting, store_acceptable, store_fitting}
use Rattle.desk_registers.specs.Registers.{desk_widths}
use Rattle.desk_image.specs.Scan.{Scan, Reached}
use Rattle.desk_image.proofs.WordLine.{octal_word_lt}
use Rattle.desk_image.proofs.Sound.{reached_keeps, clear_acceptable}
use Rattle.text_fields.specs.Fields.{field}
use Rattle.desk_entry.specs.Lines.{entry}
use Rattle.desk_inquiry.specs.Input.{Inquiry, ready, entered, entered_if}
use Rattle.desk_inquiry.specs.Scan.{asking}
use Rattle.desk_entry.specs.declared.Entry.{Entry}
use Rattle.desk_entry.specs.declared.Entry.TheVariants.{Word, Register, Budget, Input}
use Rattle.std.specs.Prelude.{Option, Some, None}
use Rattle.desk_entry.proofs.ByKind.{by_entry}

-- what no check of a state turns down
pub record Sound (q : Inquiry) : Type 0 where
  pub registers : Fitting desk_widths q.registers
  pub budget : q.budget ≤ budget_limit
  pub memory : Acceptable q.memory

-- ---- an entry keeps its widths

abbrev Narrow : Entry → Type 0
Narrow (Word address word) = word < 2 ^ word_bits
Narrow (Register place value) = value < 2 ^ get_or desk_widths place 0
Narrow (Budget steps) = steps ≤ budget_limit
Narrow (Input n) = Unit {0}

abbrev NarrowIf : Option Entry → Type 0
NarrowIf (Some e) = Narrow e
NarrowIf None = Unit {0}

entry_narrow : (line : List ℕ) → NarrowIf (entry line)
entry_narrow line =
    by_entry NarrowIf tt line (λ t.
    record { word = λ a w. octal_word_lt (field 1 line) w; register = λ h d narrow. ltb-true _ _ narrow; budget = λ h few small. small; input = λ h bytes. tt })

-- ---- and what is asked

enters : (e : Entry) (value : List ℕ) (q : Inquiry) → Narrow e → Sound q → Sound (entered e value q)
unfolding entered
enters (Word address word) value q h d = record { registers = d.registers; budget = d.budget; memory = store_acceptable address h d.memory }
enters (Register place v) value q h d = record { registers = store_fitting place h d.registers; budget = d.budget; memory = d.memory }
enters (Budget steps) value q h d = record { registers = d.registers; budget = h; memory = d.memory }
enters (Input n) value q h d = record { registers = d.registers; budget = d.budget; memory = d.memory }

enters_if : (said : Option Entry) (value : List ℕ) (q : Inquiry) → NarrowIf said → Sound q → Sound (entered_if said value q)
enters_if (Some e) value q h d = enters e value q h d
enters_if None value q h d = d

ready_sound : Sound ready
unfolding ready first_too_wide
ready_sound = record { registers = registers_fitting desk_widths ready.registers refl; budget = omega arith; memory = clear_acceptable }

-- after every text
pub reached_sound : (s : Scan Inquiry) → Reached asking s → Sound s.made
reached_sound s reached = reached_keeps asking Sound (λ line t q d. enters_if (entry line) (field 1 line) q (entry_narrow line) d) ready_sound s reached
