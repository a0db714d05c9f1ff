-- `guavachisel::shipping::description_of`: the two numbers that have a description, and the others.
use Rattle.std.proofs.Common.{arith, sym, ap, ◌∙◌}
use Rattle.guavachisel.specs.Shipping.{shipped_of}
use Rattle.guavachisel.proofs.Rooms.{no_text}
use Rattle.guavachisel.proofs.shipping.description_of.Goals as goal

pub returns-in-0 : goal.returns-in-0
unfolding shipped_of
returns-in-0 c = c.shipped_text.ensures ∙ sym (ap shipped_of c.in-0.is)

pub returns-in-1 : goal.returns-in-1
unfolding shipped_of
returns-in-1 c = c.shipped_text-in-1.ensures ∙ sym (ap shipped_of c.in-1.is)

pub returns-in_default : goal.returns-in_default
returns-in_default c = no_text c.args.which (λ e. omega (arith, e)) (λ e. omega (arith, e))
