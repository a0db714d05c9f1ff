-- `text_tokens::token_end` is its definition, by the first byte.
use mathlib.Core.Path.{sym, ap, ◌∙◌}
use Rattle.characters.specs.Characters.{is_word}
use Rattle.text_tokens.proofs.Tokens.{word_end_lem, binary_end, octal_end, other_end}
use Rattle.text_tokens.proofs.token_end.Goals as goal

pub returns-then-is_of : goal.returns-then-is_of
returns-then-is_of c = c.run_end.ensures ∙ sym (word_end_lem c.args.s.now c.args.at (ap is_word (sym c.byte-first.ensures) ∙ sym c.is_of.ensures ∙ c.if-is_of.true))

pub returns-then-first-eq39 : goal.returns-then-first-eq39
returns-then-first-eq39 c = c.run_end-then-first-eq39.ensures ∙ sym (binary_end c.args.s.now c.args.at (sym c.byte-first.ensures ∙ c.if-first-eq39.true))

pub returns-then-first-eq35 : goal.returns-then-first-eq35
returns-then-first-eq35 c = c.run_end-then-first-eq35.ensures ∙ sym (octal_end c.args.s.now c.args.at (sym c.byte-first.ensures ∙ c.if-first-eq35.true))

pub returns : goal.returns
returns c = sym (other_end c.args.s.now c.args.at (ap is_word (sym c.byte-first.ensures) ∙ sym c.is_of.ensures ∙ c.if-is_of.false)
    (λ e. c.if-first-eq39.false (c.byte-first.ensures ∙ e)) (λ e. c.if-first-eq35.false (c.byte-first.ensures ∙ e)))
