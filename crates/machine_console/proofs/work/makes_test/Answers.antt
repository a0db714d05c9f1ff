-- `machine_console::work::makes_test`: the code's test is the definition's.
use mathlib.Core.Path.{ap}
use mathlib.Core.Bool.{Bool, not, ◌&&◌, ◌||◌}
use lib.Dec.{eqb}
use Rattle.machine_state.specs.Instruction.{op}
use Rattle.machine_state.specs.Interrupt.{ion}
use Rattle.machine_run.specs.Step.{halts, makes_test}
use Rattle.machine_console.proofs.work.makes_test.Goals as goal

pub returns : goal.returns
unfolding makes_test halts
returns c = ap (λ (t : Bool). not (eqb c.args.i ion || (eqb (op c.args.i) 7 && t))) c.clears_run.ensures
