-- `evaluator::attached::attach`: register by register.
use mathlib.Core.Path.{refl, sym, ◌∙◌}
use native.Mathlib.Omega.{arith}
use Rattle.std.proofs.Common.{rules}
use Rattle.characters.specs.Table.{named}
use Rattle.evaluator.proofs.Attaching.{attaching_absent, attaching_next, attaching_none}
use Rattle.evaluator.proofs.attached.attach.Goals as goal

pub returns-in_err-found : goal.returns-in_err-found
returns-in_err-found c = let none = attaching_absent c.args.text.now c.args.d c.loop-k.k (named c.register_at-register.result) c.register_at-register.result.name.now
    (omega (arith, c.loop-k-test.true, c.loop-k.invariant.size)) c.register_at-register.ensures refl (sym c.place_of.ensures ∙ c.in_err-found.was) in
    search (rules, none)

pub returns-then-not-has_width : goal.returns-then-not-has_width
returns-then-not-has_width c = attaching_none _ _ c.loop-k.k (named c.register_at-register.result) _ _ c.has_width.result (omega (arith, c.loop-k-test.true, c.loop-k.invariant.size))
    c.register_at-register.ensures refl (sym c.place_of.ensures ∙ c.in_ok-found.was) c.has_width.ensures (search rules)

pub loop-k-preserved : goal.loop-k-preserved
loop-k-preserved c = attaching_next _ _ c.loop-k.k (named c.register_at-register.result) _ _ c.has_width.result (omega (arith, c.loop-k-test.true, c.loop-k.invariant.size))
    c.register_at-register.ensures refl (sym c.place_of.ensures ∙ c.in_ok-found.was) c.has_width.ensures c.loop-k.place-items c.loop-k.invariant (search rules)
