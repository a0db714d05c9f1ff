-- `desk_entry::budget_entry`: digits first, then how many steps they say.
use native.Mathlib.Omega.{arith}
use mathlib.Core.Bool.{◌&&◌}
use lib.Dec.{ltb, leb}
use lib.ListN.{length}
use borrow.Author.Tests.{leb-true, le-leb, lt-leb}
use Rattle.laws.proofs.Joined.{and_left, and_right}
use Rattle.desk_entry.specs.Lines.{budget_digits, budget_entry}
use Rattle.desk_entry.proofs.budget_entry.Goals as goal

pub digits_value-steps-requires : goal.digits_value-steps-requires
digits_value-steps-requires c = let few = and_left (ltb 0 (length c.args.value.now) && leb (length c.args.value.now) budget_digits) c.is_digits.result c.if-n-is_digits.true in
    omega (arith, leb-true (length c.args.value.now) budget_digits (and_right (ltb 0 (length c.args.value.now)) (leb (length c.args.value.now) budget_digits) few))

pub returns-then-steps-le-BUDGET_LIMIT : goal.returns-then-steps-le-BUDGET_LIMIT
unfolding budget_entry
returns-then-steps-le-BUDGET_LIMIT c = let t = rw c.is_digits.ensures at c.if-n-is_digits.true in
    let within = rw c.digits_value-steps.ensures at (le-leb _ _ c.if-steps-le-BUDGET_LIMIT.true) in
    rw (t, within, c.digits_value-steps.ensures, budget_entry)

pub returns-else-steps-le-BUDGET_LIMIT : goal.returns-else-steps-le-BUDGET_LIMIT
unfolding budget_entry
returns-else-steps-le-BUDGET_LIMIT c = let t = rw c.is_digits.ensures at c.if-n-is_digits.true in
    let above = rw c.digits_value-steps.ensures at (lt-leb _ _ c.if-steps-le-BUDGET_LIMIT.false) in
    rw (t, above, budget_entry)

pub returns-else-n-is_digits : goal.returns-else-n-is_digits
unfolding budget_entry
returns-else-n-is_digits c = let t = rw c.is_digits.ensures at c.if-n-is_digits.false in
    rw (t, budget_entry)
