-- Ops 0 to 5 by tests of their number.
-- Assumes nothing.
use mathlib.Core.Path.{◌≡◌, refl}
use mathlib.Core.Bool.{false}
use Prim.Native.Nat.{ℕ, zero, suc, ◌<◌}
use native.Mathlib.Omega.{arith}
use borrow.Author.Tests.{ne_eqb}
use lib.Dec.{eqb, lit<}
use Rattle.word.specs.Choice.{pick}
use Rattle.machine_state.specs.State.{State}
use Rattle.machine_reference.specs.Reference.{and_to, add_to, increment_and_skip, deposit, call_at, jump_to, operation}

past : (n k : ℕ) → k < 5 → eqb (suc (suc (suc (suc (suc n))))) k ≡ false
past n k h = ne_eqb (suc (suc (suc (suc (suc n))))) k (λ e. omega arith)

pub by_op : (n e : ℕ) (s : State)
    → operation n e s
    ≡ pick (eqb n 0) (and_to e s)
    (pick (eqb n 1) (add_to e s)
    (pick (eqb n 2) (increment_and_skip e s) (pick (eqb n 3) (deposit e s) (pick (eqb n 4) (call_at e s) (jump_to e s)))))
unfolding operation
by_op zero e s = refl
by_op (suc zero) e s = refl
by_op (suc (suc zero)) e s = refl
by_op (suc (suc (suc zero))) e s = refl
by_op (suc (suc (suc (suc zero)))) e s = refl
by_op (suc (suc (suc (suc (suc n))))) e s =
    rw (past n 0 (lit< tt), past n 1 (lit< tt), past n 2 (lit< tt), past n 3 (lit< tt), past n 4 (lit< tt))
