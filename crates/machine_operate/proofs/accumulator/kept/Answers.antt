-- `machine_operate::accumulator::kept`: each arm has what the instruction with these bits alone leaves.
use mathlib.Core.Path.{◌∙◌}
use native.Mathlib.Omega.{arith}
use lib.Bits.{and_zero_r}
use Rattle.machine_state.proofs.Lac.{link_cleared_lem}
use Rattle.machine_operate.proofs.Changes.{cleared_alike}
use Rattle.machine_operate.proofs.Masks.{and_lac, and_ac, and_link}
use Rattle.machine_operate.proofs.accumulator.kept.Goals as goal

pub returns-in-0 : goal.returns-in-0
returns-in-0 c = λ lac h. cleared_alike c.args.i 0 lac c.in-0.is (and_lac h)

pub returns-in-1 : goal.returns-in-1
returns-in-1 c = λ lac h. cleared_alike c.args.i 0o100 lac c.in-1.is (and_ac lac ∙ link_cleared_lem h)

pub returns-in-2 : goal.returns-in-2
returns-in-2 c = λ lac h. cleared_alike c.args.i 0o200 lac c.in-2.is (and_link h)

pub returns-in_default : goal.returns-in_default
returns-in_default c = λ lac h. cleared_alike c.args.i 0o300 lac (omega (arith, c.in_default.in_default-own.rest)) (and_zero_r lac ∙ omega arith)
