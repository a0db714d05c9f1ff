-- `rows_store::operation::exchanged`: the shifts are below 32.
use Prim.Native.Nat.{ℕ, ◌+◌, ◌*◌, ◌/◌, ◌%◌, ◌^◌, ◌≤◌, ◌<◌}
use native.Mathlib.Nat.{mod-eq_of_lt, mod-le, div-le_self}
use native.Mathlib.Omega.{arith}
use Rattle.rows_store.proofs.Remainders.{product_le}
use Rattle.rows_store.proofs.operation.exchanged.Goals as goal

-- the two parts of a number of 16 bits, the right one shifted
parts_le : (x m n : ℕ) → x < 65536 → n ≤ 2 ^ 31 → x % m * n + x / m ≤ 2 ^ 47 + 2 ^ 16
parts_le x m n h k =
    let right = product_le {x = x % m} {p = n} (omega (arith, mod-le x m)) k in
    omega (arith, div-le_self x m)

pub overflow_cast-result-2 : goal.overflow_cast-result-2
overflow_cast-result-2 c = omega (arith, mod-le c.args.x c.power_of-seam.result, c.ranges)

-- the sum of both parts
pub overflow_add-result : goal.overflow_add-result
overflow_add-result c = let h = parts_le c.args.x c.power_of-seam.result c.power_of.result (omega (arith, c.ranges)) c.power_of.ensures.small in omega arith

pub overflow_mul-result : goal.overflow_mul-result
overflow_mul-result c = omega (arith, overflow_add-result c)

pub overflow_cast-result-5 : goal.overflow_cast-result-5
overflow_cast-result-5 c = omega (arith, div-le_self c.args.x c.power_of-seam.result, c.ranges)

pub returns : goal.returns
returns c = rw (c.power_of-seam.ensures.is, c.power_of.ensures.is, mod-eq_of_lt c.requires.right_end, mod-eq_of_lt c.requires.before_it)
