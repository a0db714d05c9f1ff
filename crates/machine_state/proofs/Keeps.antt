-- "a step keeps words and registers within their widths": shown here of a change of one register or of memory, of the interrupt test and of
-- op 6. The other ops are shown beside their definitions.
-- Assumes nothing.
use mathlib.Core.List.{List}
use mathlib.Core.Bool.{Bool}
use Prim.Native.Nat.{ℕ, ◌^◌, ◌<◌}
use lib.Dec.{eqb, lit<}
use Rattle.word.specs.Word.{word_bits}
use Rattle.word.proofs.Choice.{pick_either}
use Rattle.state.specs.Acceptable.{Acceptable}
use Rattle.state.proofs.Accepted.{store_acceptable}
use Rattle.machine_state.specs.declared.Processor.{Processor}
use Rattle.machine_state.specs.State.{State, Good, stored, with_lac, with_pc, with_run, with_enable, with_request, with_memory, lac_bits}
use Rattle.machine_state.specs.Processor.{at, Narrow}
use Rattle.machine_state.specs.Interrupt.{takes_interrupt, interrupt_test, tested_if, input_output, ion, iof}

pub lac_good : {s : State} {x : ℕ} → x < 2 ^ lac_bits → Good s → Good (with_lac x s)
lac_good h g =
    record { lac = h; pc = g.pc; run = g.run; enable = g.enable; request = g.request; switches = g.switches; memory = g.memory }

pub pc_good : {s : State} {x : ℕ} → x < 2 ^ word_bits → Good s → Good (with_pc x s)
pc_good h g =
    record { lac = g.lac; pc = h; run = g.run; enable = g.enable; request = g.request; switches = g.switches; memory = g.memory }

pub run_good : {s : State} {x : ℕ} → x < 2 → Good s → Good (with_run x s)
run_good h g =
    record { lac = g.lac; pc = g.pc; run = h; enable = g.enable; request = g.request; switches = g.switches; memory = g.memory }

pub enable_good : {s : State} {x : ℕ} → x < 2 → Good s → Good (with_enable x s)
enable_good h g =
    record { lac = g.lac; pc = g.pc; run = g.run; enable = h; request = g.request; switches = g.switches; memory = g.memory }

pub request_good : {s : State} {x : ℕ} → x < 2 → Good s → Good (with_request x s)
request_good h g =
    record { lac = g.lac; pc = g.pc; run = g.run; enable = g.enable; request = h; switches = g.switches; memory = g.memory }

pub memory_good : {s : State} {memory : List ℕ} → Acceptable memory → Good s → Good (with_memory memory s)
memory_good h g =
    record { lac = g.lac; pc = g.pc; run = g.run; enable = g.enable; request = g.request; switches = g.switches; memory = h }

pub stored_good : {s : State} (a : ℕ) {x : ℕ} → x < 2 ^ word_bits → Good s → Good (stored a x s)
stored_good a h g = memory_good (store_acceptable a h g.memory) g

pub interrupt_good : {s : State} → Good s → Good (interrupt_test s)
unfolding interrupt_test
interrupt_good {s} g =
    pick_either Good (takes_interrupt s) (enable_good (lit< tt) (pc_good (lit< tt) (stored_good 0 g.pc g))) g

-- a test that keeps them, made or not
pub tested_good : (test : State → State) → ((s : State) → Good s → Good (test s)) → (made : Bool) {s : State} → Good s → Good (tested_if test made s)
tested_good test kept made {s} g = pick_either Good made (kept s g) g

pub input_output_good : (i : ℕ) {s : State} → Good s → Good (input_output i s)
unfolding input_output
input_output_good i g =
    pick_either Good (eqb i ion) (enable_good (lit< tt) g) (pick_either Good (eqb i iof) (enable_good (lit< tt) g) g)

-- the registers of a good state
pub good_narrow : {p : Processor} {memory : List ℕ} → Good (at p memory) → Narrow p
good_narrow g =
    record { lac = g.lac; pc = g.pc; run = g.run; enable = g.enable; request = g.request; switches = g.switches }
