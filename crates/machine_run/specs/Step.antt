-- "One step: i = M[PC]; last.pc = PC; PC = PC + 1; execute; interrupt test."
-- Assumes nothing.
use Rattle.std.specs.Prelude.{ℕ, Bool, not, ◌&&◌, ◌||◌, eqb}
use Rattle.word.specs.Choice.{pick}
use Rattle.word.specs.Word.{next}
use Rattle.machine_state.specs.State.{State, word, with_pc}
use Rattle.machine_state.specs.Instruction.{op}
use Rattle.machine_reference.specs.Reference.{reference}
use Rattle.machine_operate.specs.Operate.{operate, clears_run}
use Rattle.machine_state.specs.Interrupt.{interrupt_test, tested_if, ion, input_output}

-- the instruction i that was fetched from `last`, by its op
unfoldable pub execute : ℕ → ℕ → State → State
execute i last s = pick (eqb (op i) 6) (input_output i s) (pick (eqb (op i) 7) (operate i s) (reference i last s))

-- document 02, One: "A step that sets RUN to 0"
unfoldable pub halts : ℕ → Bool
halts i = eqb (op i) 7 && clears_run i

-- it "now makes no interrupt test", and "word 6001 .. omits this step's"
unfoldable pub makes_test : ℕ → Bool
makes_test i = not (eqb i ion || halts i)

-- a step over the interrupt test that it makes
unfoldable pub step_with : (State → State) → State → State
step_with test s =
    let i : ℕ = word s.pc s in
    tested_if test (makes_test i) (execute i s.pc (with_pc (next s.pc) s))

-- the machine's step: with document 01's test
abbrev pub step : State → State
step s = step_with interrupt_test s
