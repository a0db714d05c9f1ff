-- The step without request One of document 02: the interrupt test "also follows a halt". Nothing rests on it; machine_run/Changed says where a step differs from it.
-- Assumes nothing.
use Rattle.std.specs.Prelude.{ℕ, eqb}
use Rattle.word.specs.Choice.{pick}
use Rattle.word.specs.Word.{next}
use Rattle.machine_state.specs.State.{State, word, with_pc, with_enable}
use Rattle.machine_state.specs.Instruction.{op}
use Rattle.machine_reference.specs.Reference.{reference}
use Rattle.machine_operate.specs.Operate.{operate}
use Rattle.machine_state.specs.Interrupt.{interrupt_test, ion, iof}

abbrev base_input_output : ℕ → State → State
base_input_output i s = pick (eqb i ion) (with_enable 1 s) (interrupt_test (pick (eqb i iof) (with_enable 0 s) s))

abbrev base_execute : ℕ → ℕ → State → State
base_execute i last s =
    pick (eqb (op i) 6) (base_input_output i s) (interrupt_test (pick (eqb (op i) 7) (operate i s) (reference i last s)))

unfoldable pub base_step : State → State
base_step s = base_execute (word s.pc s) s.pc (with_pc (next s.pc) s)
