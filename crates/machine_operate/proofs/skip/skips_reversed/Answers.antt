-- `machine_operate::skip::skips_reversed`: the first selected condition that does not hold decides, which is to say the first plain one that holds.
use mathlib.Core.Path.{◌≡◌, refl}
use mathlib.Core.Bool.{Bool, true, false, not, not-not}
use Prim.Native.Nat.{ℕ}
use Rattle.laws.proofs.Joined.{not_and}
use Rattle.machine_state.proofs.Lac.{ac_is}
use Rattle.machine_operate.specs.Operate.{skips_reversed}
use Rattle.machine_operate.proofs.Reversed.{sma, sza, snl, reversed_is}
use Rattle.machine_operate.proofs.skip.skips_reversed.Goals as goal

-- t and u are the code's tests, and r what it is left with: each has to be the condition that is meant
module _ (i lac : ℕ) where
  first : {t : Bool} → t ≡ true → t ≡ sma i lac → false ≡ skips_reversed i lac
  first p e = rw (reversed_is i lac, ← e, p)

  second : {t u : Bool} → t ≡ false → u ≡ true → t ≡ sma i lac → u ≡ sza i lac → false ≡ skips_reversed i lac
  second p q e f = rw (reversed_is i lac, ← e, p, ← f, q)

  third : {t u r : Bool} → t ≡ false → u ≡ false → t ≡ sma i lac → u ≡ sza i lac → r ≡ not (snl i lac) → r ≡ skips_reversed i lac
  third p q e f h = rw (reversed_is i lac, ← e, p, ← f, q, h)

pub returns-then-i-lac : goal.returns-then-i-lac
returns-then-i-lac c = first c.args.i c.args.lac c.if-i-lac.true refl

pub returns-then-i-lac-2 : goal.returns-then-i-lac-2
returns-then-i-lac-2 c = second c.args.i c.args.lac c.if-i-lac.false c.if-i-lac-2.true refl (simp (ac_is, not-not))

pub returns : goal.returns
returns c = third c.args.i c.args.lac c.if-i-lac.false c.if-i-lac-2.false refl (simp (ac_is, not-not)) (simp not_and)
