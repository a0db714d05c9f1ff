-- `machine_operate::groups::or_switches`: the code's test is the definition's, and an or of two 12-bit words has 12 bits.
use native.Mathlib.Omega.{arith}
use Prim.Native.Nat.{◌%◌}
use borrow.Author.Tests.{eq-eqb, ne_eqb}
use lib.Bits.{or_lt}
use Rattle.machine_state.proofs.Lac.{ac_is, ac_written}
use Rattle.machine_operate.proofs.groups.or_switches.Goals as goal

pub overflow_add-result : goal.overflow_add-result
overflow_add-result c = let h = or_lt 12 (c.args.lac % 4096) c.args.switches (omega arith) (omega arith) in omega arith

pub returns-then-i-ne0 : goal.returns-then-i-ne0
returns-then-i-ne0 c = let h = or_lt 12 (c.args.lac % 4096) c.args.switches (omega arith) c.requires.switches in
    simp (ne_eqb _ _ c.if-i-ne0.true, ac_is) (ac_written c.args.lac h)

pub returns-else-i-ne0 : goal.returns-else-i-ne0
returns-else-i-ne0 c = simp (eq-eqb _ _ c.if-i-ne0.false)
