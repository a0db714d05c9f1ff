-- What the program `explain` reads: the image's lines as for the day listing, "optional lines for machine registers (name, TAB, octal) and `budget`,
-- TAB, decimal", and, for a run with devices, lines of device registers and of the input.
-- Assumes nothing.
use Rattle.std.specs.Prelude.{ℕ, Bool, true, false, ◌||◌, List, [], ◌++◌, length, nat_le, slice_set, Option, Some, None}
use Rattle.devices.specs.Devices.{device_values}
use Rattle.machine_state.specs.Registers.{machine_registers, values}
use Rattle.text_fields.specs.Fields.{lines, field}
use Rattle.desk_image.specs.Input.{after_lines, clear}
use Rattle.desk_entry.specs.Octets.{octets}
use Rattle.desk_entry.specs.Lines.{entry, is_fit}
use Rattle.desk_entry.specs.declared.Entry.{Entry}
use Rattle.desk_entry.specs.declared.Entry.TheVariants.{Word, Register, Budget, Input}

-- what a run starts from: the machine registers in their order, then the devices'; the budget, the memory, the input; and whether the run is one with devices
pub record Inquiry : Type 0 where
  pub registers : List ℕ
  pub budget : ℕ
  pub memory : List ℕ
  pub input : List ℕ
  pub devices : Bool

-- "memory words and registers are 0, PC is 0200, RUN is 1, the budget is 16" where nothing is said, and there are no devices
unfoldable pub ready : Inquiry
ready =
    record {
      registers =
          values (record { lac = 0; pc = 0o200; run = 1; enable = 0; request = 0; switches = 0 })
          ++ device_values (record { key = 0; keyboard = 0; printer = 0; print = 0; mark = 0 });
      budget = 16;
      memory = clear;
      input = [];
      devices = false;
    }

-- whether a register is a device's: they stand after the machine's
abbrev pub is_devices : ℕ → Bool
is_devices place = nat_le (length machine_registers) place

-- what is said, entered; the bytes of the input stand in the line's second field. "A line for a device register or for the input makes the run one with devices"
unfoldable pub entered : Entry → List ℕ → Inquiry → Inquiry
entered (Word address word) value q =
    record { registers = q.registers; budget = q.budget; memory = slice_set q.memory address word; input = q.input; devices = q.devices }
entered (Register place v) value q =
    record { registers = slice_set q.registers place v; budget = q.budget; memory = q.memory; input = q.input; devices = is_devices place || q.devices }
entered (Budget steps) value q = record { registers = q.registers; budget = steps; memory = q.memory; input = q.input; devices = q.devices }
entered (Input n) value q = record { registers = q.registers; budget = q.budget; memory = q.memory; input = octets value n; devices = true }

-- whether a line is fit, and what it says, entered
abbrev pub is_fit_line : List ℕ → Bool
is_fit_line line = is_fit (entry line)

abbrev pub entered_if : Option Entry → List ℕ → Inquiry → Inquiry
entered_if (Some e) value q = entered e value q
entered_if None value q = q

abbrev pub entered_line : List ℕ → Inquiry → Inquiry
entered_line line q = entered_if (entry line) (field 1 line) q

-- "a later line for the same thing wins": what a text asks for
abbrev pub asked : List ℕ → Inquiry
asked text = after_lines entered_line (lines text) ready
