-- "Interrupt test", and op 6, which switches it.
-- Assumes nothing.
use Rattle.std.specs.Prelude.{ℕ, Bool, ◌&&◌, eqb}
use Rattle.word.specs.Choice.{on, pick}
use Rattle.machine_state.specs.State.{State, stored, with_pc, with_enable}

-- "If INTERRUPT.ENABLE and INTERRUPT.REQUEST are both 1": whether an interrupt is taken
abbrev pub takes_interrupt : State → Bool
takes_interrupt s = on s.enable && on s.request

-- "M[0] = PC, PC = 1, INTERRUPT.ENABLE = 0": what it does
abbrev pub interrupted : State → State
interrupted s = with_enable 0 (with_pc 1 (stored 0 s.pc s))

-- "Interrupt test": the one asked, the other done
unfoldable pub interrupt_test : State → State
interrupt_test s = pick (takes_interrupt s) (interrupted s) s

-- a test, where one is made
abbrev pub tested_if : (State → State) → Bool → State → State
tested_if test made s = pick made (test s) s

-- "word 6001 sets INTERRUPT.ENABLE"
abbrev pub ion : ℕ
ion = 0o6001

-- "6002 clears it"
abbrev pub iof : ℕ
iof = 0o6002

-- "6: ..; any other has no effect"
unfoldable pub input_output : ℕ → State → State
input_output i s = pick (eqb i ion) (with_enable 1 s) (pick (eqb i iof) (with_enable 0 s) s)
