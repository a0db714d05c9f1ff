-- `machine_operate::rotate::factor`: each arm rotates as the instruction with these bits alone; any other rotates both ways or not at all.
use mathlib.Core.Path.{◌≡◌, sym, ◌∙◌}
use native.Mathlib.Omega.{arith}
use Rattle.machine_state.specs.Instruction.{flag}
use Rattle.machine_operate.proofs.Rotated.{rotated_alike, unrotated}
use Rattle.machine_operate.proofs.rotate.factor.Goals as goal

pub returns-in-2 : goal.returns-in-2
returns-in-2 c = record { fits = λ x h. omega arith; rotates = λ x h. rotated_alike c.args.i 0o4 x c.in-2.is (omega arith) }

pub returns-in-3 : goal.returns-in-3
returns-in-3 c = record { fits = λ x h. omega arith; rotates = λ x h. rotated_alike c.args.i 0o6 x c.in-3.is (omega arith) }

pub returns-in-4 : goal.returns-in-4
returns-in-4 c = record { fits = λ x h. omega arith; rotates = λ x h. rotated_alike c.args.i 0o10 x c.in-4.is (omega arith) }

pub returns-in-5 : goal.returns-in-5
returns-in-5 c = record { fits = λ x h. omega arith; rotates = λ x h. rotated_alike c.args.i 0o12 x c.in-5.is (omega arith) }

pub returns-in_default : goal.returns-in_default
returns-in_default c = let same : flag 8 c.args.i ≡ flag 9 c.args.i = omega (arith, c.in_default.in_default-own.rest) in
    record { fits = λ x h. omega arith; rotates = λ x h. omega arith ∙ sym (unrotated c.args.i h same) }
