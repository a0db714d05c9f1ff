-- `desk_teletype::words::budget_of`: 1 to 16 digits.
use native.Mathlib.Omega.{arith}
use mathlib.Core.Bool.{◌&&◌}
use lib.Dec.{ltb, leb}
use lib.ListN.{length}
use borrow.Author.Tests.{leb-true}
use Rattle.laws.proofs.Joined.{and_left, and_right}
use Rattle.desk_teletype.specs.Words.{budget_digits, budget_of}
use Rattle.desk_teletype.proofs.words.budget_of.Goals as goal

pub digits_value-requires : goal.digits_value-requires
digits_value-requires c = let few = and_left (ltb 0 (length c.args.text.now) && leb (length c.args.text.now) budget_digits) c.is_digits.result c.if-n-is_digits.true in
    omega (arith, leb-true (length c.args.text.now) budget_digits (and_right (ltb 0 (length c.args.text.now)) (leb (length c.args.text.now) budget_digits) few))

pub returns-then-n-is_digits : goal.returns-then-n-is_digits
unfolding budget_of
returns-then-n-is_digits c = let t = rw c.is_digits.ensures at c.if-n-is_digits.true in
    rw (t, c.digits_value.ensures, budget_of)

pub returns-else-n-is_digits : goal.returns-else-n-is_digits
unfolding budget_of
returns-else-n-is_digits c = let t = rw c.is_digits.ensures at c.if-n-is_digits.false in
    rw (t, budget_of)
