-- `text_fields::field_of`: the field of what is left is the field of the line.
use mathlib.Core.Path.{◌≡◌, sym, ap, ◌∙◌}
use native.Mathlib.Omega.{arith}
use Prim.Native.Nat.{◌+◌, ◌-◌}
use Rattle.text_fields.specs.Fields.{field}
use Rattle.text_fields.proofs.Lines.{next_field, first_field}
use Rattle.text_fields.proofs.field_of.Goals as goal

pub loop-preserved : goal.loop-preserved
loop-preserved c =
    let left : c.args.n - c.loop.counter - 1 ≡ c.args.n - (c.loop.counter + 1) = omega arith in
    c.loop.invariant
    ∙ next_field (c.args.n - c.loop.counter) c.loop.rest.now (omega (arith, c.loop-test.true))
    ∙ rw left (ap (field (c.args.n - (c.loop.counter + 1))) (sym c.part_after-next.ensures))

pub returns : goal.returns
returns c = c.part_before.ensures ∙ sym (c.loop.invariant ∙ first_field (c.args.n - c.loop.counter) c.loop.rest.now (omega (arith, c.loop-test.false)))
