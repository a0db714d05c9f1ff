-- `rows_store::shifts::shifted`: 16 bits shifted by fewer than 32 places lose nothing among 64.
use Prim.Native.Nat.{◌+◌, ◌*◌, ◌^◌, ◌%◌, ◌<◌}
use native.Mathlib.Nat.{lt_of_lt_of_le}
use native.Mathlib.Omega.{arith}
use lib.Pow.{shl_exact, shl_lt, pow_mono}
use borrow.Author.Rules.{rules}
use Rattle.rows_store.proofs.shifts.shifted.Goals as goal

pub returns : goal.returns
returns c = let places = c.args.n % 32 in
    let narrow : c.args.x < 2 ^ 16 = search rules in
    let is = shl_exact 16 places 64 narrow (omega arith) in
    let small : c.args.x * 2 ^ places < 2 ^ 47 = lt_of_lt_of_le (shl_lt 16 places narrow) (pow_mono {i = 16 + places} {j = 47} (omega arith)) in
    record { value = is; small = rw is small }
