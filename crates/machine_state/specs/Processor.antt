-- What the code works with meanwhile: the registers, each in a machine word of its own.
-- Assumes nothing.
use Rattle.std.specs.Prelude.{List, ℕ, ◌^◌, ◌<◌}
use Rattle.word.specs.Word.{word_bits}
use Rattle.machine_state.specs.declared.Machine.{Machine}
use Rattle.machine_state.specs.declared.Processor.{Processor}
use Rattle.machine_state.specs.State.{State, lac_bits}

-- as a caller's registers
abbrev pub narrowed : Processor → Machine
narrowed p = record { lac = p.lac; pc = p.pc; run = p.run; enable = p.enable; request = p.request; switches = p.switches }

-- the state that they and memory make
abbrev pub at : Processor → List ℕ → State
at p memory =
    record { lac = p.lac; pc = p.pc; run = p.run; enable = p.enable; request = p.request; switches = p.switches; memory = memory }

-- each fits its width
pub record Narrow (p : Processor) : Type 0 where
  pub lac : p.lac < 2 ^ lac_bits
  pub pc : p.pc < 2 ^ word_bits
  pub run : p.run < 2
  pub enable : p.enable < 2
  pub request : p.request < 2
  pub switches : p.switches < 2 ^ word_bits
