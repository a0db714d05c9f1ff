-- `text_expression::addressed_place`: by its own test.
use mathlib.Core.Path.{◌∙◌}
use native.Mathlib.Omega.{arith}
use Rattle.characters.specs.declared.Class.TheVariants.{Space}
use Rattle.characters.proofs.Runs.{within}
use Rattle.text_expression.proofs.Destinations.{as_found, addressed, unaddressed}
use Rattle.text_expression.proofs.addressed_place.Goals as goal

pub overflow_add-close : goal.overflow_add-close
overflow_add-close c = omega (arith, c.skip_spaces-close.ensures, within Space c.args.s.now c.args.end.place c.requires.within_field)

pub returns-then-byte-close : goal.returns-then-byte-close
returns-then-byte-close c = addressed c.args.s.now c.args.end c.args.from
    (as_found c.args.s.now c.args.end c.args.from c.skip_spaces-close.result c.byte.result c.skip_spaces-close.ensures c.byte.ensures ∙ c.if-byte-close.true)

pub returns-else-byte-close : goal.returns-else-byte-close
returns-else-byte-close c = unaddressed c.args.s.now c.args.end c.args.from
    (as_found c.args.s.now c.args.end c.args.from c.skip_spaces-close.result c.byte.result c.skip_spaces-close.ensures c.byte.ensures ∙ c.if-byte-close.false)
