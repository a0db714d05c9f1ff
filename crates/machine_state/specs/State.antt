-- The state of the machine: its six registers and memory; the parts of LAC; and what a state is that keeps every width.
-- Assumes nothing.
use Rattle.std.specs.Prelude.{List, ℕ, ◌^◌, ◌<◌, get_or, set}
use Rattle.word.specs.Word.{word_bits, bits, with_bits}
use Rattle.state.specs.Acceptable.{Acceptable}
use Rattle.machine_state.specs.declared.Machine.{Machine}

-- "Memory M: 4,096 words of 12 bits", and the machine registers; Registers has their order, names and widths
pub record State : Type 0 where
  pub lac : ℕ
  pub pc : ℕ
  pub run : ℕ
  pub enable : ℕ
  pub request : ℕ
  pub switches : ℕ
  pub memory : List ℕ

-- "LAC (13 bits; L is its bit 0, AC its bits 1 to 12)"
abbrev pub lac_bits : ℕ
lac_bits = 13

-- the state that a caller's registers and memory make
abbrev pub start : Machine → List ℕ → State
start m memory =
    record { lac = m.lac; pc = m.pc; run = m.run; enable = m.enable; request = m.request; switches = m.switches; memory = memory }

-- the registers of a state, as a caller gets them back
abbrev pub registers : State → Machine
registers s = record { lac = s.lac; pc = s.pc; run = s.run; enable = s.enable; request = s.request; switches = s.switches }

-- a state with another LAC, PC, RUN, INTERRUPT.ENABLE, INTERRUPT.REQUEST or memory
abbrev pub with_lac : ℕ → State → State
with_lac x s =
    record { lac = x; pc = s.pc; run = s.run; enable = s.enable; request = s.request; switches = s.switches; memory = s.memory }

abbrev pub with_pc : ℕ → State → State
with_pc x s =
    record { lac = s.lac; pc = x; run = s.run; enable = s.enable; request = s.request; switches = s.switches; memory = s.memory }

abbrev pub with_run : ℕ → State → State
with_run x s =
    record { lac = s.lac; pc = s.pc; run = x; enable = s.enable; request = s.request; switches = s.switches; memory = s.memory }

abbrev pub with_enable : ℕ → State → State
with_enable x s =
    record { lac = s.lac; pc = s.pc; run = s.run; enable = x; request = s.request; switches = s.switches; memory = s.memory }

abbrev pub with_request : ℕ → State → State
with_request x s =
    record { lac = s.lac; pc = s.pc; run = s.run; enable = s.enable; request = x; switches = s.switches; memory = s.memory }

abbrev pub with_memory : List ℕ → State → State
with_memory x s =
    record { lac = s.lac; pc = s.pc; run = s.run; enable = s.enable; request = s.request; switches = s.switches; memory = x }

-- M[a], and a state with x stored there
abbrev pub word : ℕ → State → ℕ
word a s = get_or s.memory a 0

abbrev pub stored : ℕ → ℕ → State → State
stored a x s = with_memory (set s.memory a x) s

-- L and AC of a LAC
abbrev pub link : ℕ → ℕ
link lac = bits lac_bits 0 0 lac

abbrev pub ac : ℕ → ℕ
ac lac = bits lac_bits 1 12 lac

-- LAC with x as L, and with x as AC
abbrev pub with_link : ℕ → ℕ → ℕ
with_link lac x = with_bits lac_bits 0 0 lac x

abbrev pub with_ac : ℕ → ℕ → ℕ
with_ac lac x = with_bits lac_bits 1 12 lac x

-- every register and every word fits
pub record Good (s : State) : Type 0 where
  pub lac : s.lac < 2 ^ lac_bits
  pub pc : s.pc < 2 ^ word_bits
  pub run : s.run < 2
  pub enable : s.enable < 2
  pub request : s.request < 2
  pub switches : s.switches < 2 ^ word_bits
  pub memory : Acceptable s.memory
