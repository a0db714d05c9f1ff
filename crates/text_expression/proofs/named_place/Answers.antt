-- `text_expression::named_place`: by the kind of the reference.
use mathlib.Core.Path.{ap, ◌∙◌}
use Rattle.std.specs.Prelude.{Some}
use Rattle.text_expression.specs.Expression.{of_name}
use Rattle.text_expression.proofs.Destinations.{to_register_lem, not_register, to_part_lem, not_part}
use Rattle.text_expression.proofs.named_place.Goals as goal

pub returns-then-place-s : goal.returns-then-place-s
returns-then-place-s c = ap (of_name c.args.s.now) (ap Some c.in-Whole.is) ∙ to_register_lem c.args.s.now c.in-Whole.register c.in-Whole.width c.in-Whole.place c.if-place-s.true

pub returns-else-place-s : goal.returns-else-place-s
returns-else-place-s c = ap (of_name c.args.s.now) (ap Some c.in-Whole.is) ∙ not_register c.args.s.now c.in-Whole.register c.in-Whole.width c.in-Whole.place c.if-place-s.false

pub returns-then-place-s-2 : goal.returns-then-place-s-2
returns-then-place-s-2 c = ap (of_name c.args.s.now) (ap Some c.in-Part.is) ∙ to_part_lem c.args.s.now c.in-Part.register c.in-Part.width c.in-Part.place c.in-Part.first c.in-Part.last c.if-place-s-2.true

pub returns-else-place-s-2 : goal.returns-else-place-s-2
returns-else-place-s-2 c = ap (of_name c.args.s.now) (ap Some c.in-Part.is) ∙ not_part c.args.s.now c.in-Part.register c.in-Part.width c.in-Part.place c.in-Part.first c.in-Part.last c.if-place-s-2.false
