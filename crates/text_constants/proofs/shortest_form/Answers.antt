-- `text_constants::shortest_form`: one number of bits after the other is tried.
use mathlib.Core.Path.{◌≡◌, sym, ap, ◌∙◌}
use Prim.Native.Nat.{ℕ, ◌+◌, ◌-◌, ◌≤◌}
use native.Mathlib.Omega.{arith}
use Rattle.text_constants.specs.Constants.{shortest_from}
use Rattle.text_constants.proofs.Shortest.{longer, long_enough}
use Rattle.text_constants.proofs.shortest_form.Goals as goal

-- the last number of bits is tried
done : (n v : ℕ) → 15 ≤ n → shortest_from (15 - n) n v ≡ n
unfolding shortest_from
done n v h =
    let e : 15 - n ≡ 0 = omega arith in
    rw e

pub returns-then-is_narrow : goal.returns-then-is_narrow
returns-then-is_narrow c = sym (c.loop-n.invariant ∙ long_enough (15 - c.loop-n.n) c.loop-n.n c.args.v (sym c.is_narrow.ensures ∙ c.if-is_narrow.true))

pub loop-n-preserved : goal.loop-n-preserved
loop-n-preserved c = c.loop-n.invariant ∙ longer (15 - c.loop-n.n) c.loop-n.n c.args.v (sym c.is_narrow.ensures ∙ c.if-is_narrow.false) (omega arith) ∙ ap (λ (k : ℕ). shortest_from k (c.loop-n.n + 1) c.args.v) (omega arith)

pub returns : goal.returns
returns c = let last : c.loop-n.n ≡ 15 = omega (arith, c.loop-n.auto.n-end (omega arith)) in
    sym (c.loop-n.invariant ∙ done c.loop-n.n c.args.v c.loop-n-test.false ∙ last)
