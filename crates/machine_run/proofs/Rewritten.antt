-- A mistake that document 01 rules out: "using a word fetched before the program rewrote it". Here the first instruction makes a HLT of the second, which is then executed.
-- Assumes nothing.
use mathlib.Core.Path.{◌≡◌, refl}
use Rattle.machine_state.specs.State.{with_lac, with_pc, with_run, stored}
use Rattle.machine_state.specs.Interrupt.{interrupt_test}
use Rattle.machine_operate.specs.Operate.{skips, group2, clears_run, operate}
use Rattle.machine_reference.specs.Address.{first_address, indexed, effective, after_indexing}
use Rattle.machine_reference.specs.Reference.{operation, reference}
use Rattle.runs.specs.Run.{ended, run_from}
use Rattle.machine_run.specs.Step.{execute, halts, makes_test, step_with}
use Rattle.machine_run.specs.Run.{run}
use Rattle.machine_run.specs.Marked.{ready}

-- DCA 0201 at 0200, with 7402 in AC and 7000 at 0201
pub rewritten_word : run 2 (with_lac 0o7402 (stored 0o200 0o3201 (stored 0o201 0o7000 ready)))
    ≡ ended 2 (with_pc 0o202 (with_run 0 (stored 0o200 0o3201 (stored 0o201 0o7402 ready))))
unfolding run_from step_with makes_test halts execute interrupt_test operate group2 clears_run skips reference operation effective after_indexing first_address indexed ready
rewritten_word = refl
