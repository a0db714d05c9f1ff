-- `machine_operate::accumulator::complemented_bits`: each arm has what the instruction with these bits alone complements.
use mathlib.Core.Path.{refl}
use native.Mathlib.Omega.{arith}
use lib.Bits.{xor_zero_r}
use Rattle.machine_operate.proofs.Changes.{complemented_alike}
use Rattle.machine_operate.proofs.Masks.{xor_link, xor_ac, xor_lac}
use Rattle.machine_operate.proofs.accumulator.complemented_bits.Goals as goal

pub returns-in-0 : goal.returns-in-0
returns-in-0 c = λ lac h. complemented_alike c.args.i 0 lac c.in-0.is (xor_zero_r lac)

pub returns-in-1 : goal.returns-in-1
returns-in-1 c = λ lac h. complemented_alike c.args.i 0o20 lac c.in-1.is (xor_link h)

pub returns-in-2 : goal.returns-in-2
returns-in-2 c = λ lac h. complemented_alike c.args.i 0o40 lac c.in-2.is (xor_ac lac)

pub returns-in_default : goal.returns-in_default
returns-in_default c = λ lac h. complemented_alike c.args.i 0o60 lac (omega (arith, c.in_default.in_default-own.rest)) (xor_lac h refl)
