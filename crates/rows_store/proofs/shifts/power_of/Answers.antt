-- `rows_store::shifts::power_of`: 1 shifted by fewer than 32 places loses nothing.
use mathlib.Core.Path.{◌∙◌}
use Prim.Native.Nat.{◌^◌, ◌%◌}
use native.Mathlib.Nat.{one-mul}
use native.Mathlib.Omega.{arith}
use lib.Dec.{lit<}
use lib.Pow.{shl_exact, pow_pos, pow_mono}
use Rattle.rows_store.proofs.shifts.power_of.Goals as goal

pub returns : goal.returns
returns c = let is = shl_exact 1 (c.args.n % 32) 32 (lit< tt) (omega arith) ∙ one-mul (2 ^ (c.args.n % 32)) in
    record { is = is; positive = rw is (pow_pos (c.args.n % 32)); small = rw is (pow_mono {i = c.args.n % 32} {j = 31} (omega arith)) }
