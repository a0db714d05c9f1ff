-- `text_bit_parts::span_at` is its definition, read off the calls.
use mathlib.Core.Path.{sym, ap, ◌∙◌}
use Rattle.text_bit_parts.specs.References.{first_bit, span_at}
use Rattle.text_constants.specs.Constants.{decimal_at}
use Rattle.text_bit_parts.proofs.span_at.Goals as goal

pub returns-in_err-first : goal.returns-in_err-first
unfolding span_at first_bit
returns-in_err-first c = c.from_residual.ensures ∙ ap (first_bit c.args.s.now) (sym c.in_err-first.was ∙ c.decimal_at.ensures ∙ ap (decimal_at c.args.s.now) c.skip_spaces.ensures)

pub returns : goal.returns
unfolding span_at
returns c = c.first_bit.ensures ∙ ap (first_bit c.args.s.now) (sym c.in_ok-first.was ∙ c.decimal_at.ensures ∙ ap (decimal_at c.args.s.now) c.skip_spaces.ensures)
