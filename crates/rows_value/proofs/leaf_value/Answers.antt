-- `rows_value::leaf_value`: kind by kind.
use Prim.Native.Nat.{◌/◌}
use native.Mathlib.Nat.{mod-le, div-le_self}
use borrow.Author.Tests.{eq-eqb, ne_eqb}
use Rattle.rows_value.specs.Words.{leaf_value}
use Rattle.rows_store.proofs.Remainders.{narrow_is}
use borrow.Author.Rules.{rules}
use Rattle.rows_value.proofs.leaf_value.Goals as goal

pub returns-then-kind-eq-CONSTANT : goal.returns-then-kind-eq-CONSTANT
unfolding leaf_value
returns-then-kind-eq-CONSTANT c = rw (eq-eqb c.args.kind 2 c.if-kind-eq-CONSTANT.true)

pub returns-then-kind-eq-REGISTER : goal.returns-then-kind-eq-REGISTER
unfolding leaf_value
returns-then-kind-eq-REGISTER c = rw (ne_eqb c.args.kind 2 c.if-kind-eq-CONSTANT.false, eq-eqb c.args.kind 0 c.if-kind-eq-REGISTER.true) (narrow_is (search rules) c.register_value-x.ensures)

pub overflow_cast-result-2 : goal.overflow_cast-result-2
overflow_cast-result-2 c = let h = div-le_self c.register_value-x.result c.power_of.result in
    let k = mod-le (c.register_value-x.result / c.power_of.result) c.power_of-2.result in
    search rules

pub returns : goal.returns
unfolding leaf_value
returns c = rw (
  ne_eqb c.args.kind 2 c.if-kind-eq-CONSTANT.false,
  ne_eqb c.args.kind 0 c.if-kind-eq-REGISTER.false,
  narrow_is (search rules) c.register_value-x.ensures,
  c.power_of.ensures.is,
  c.power_of-2.ensures.is,
)
