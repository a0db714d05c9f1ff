-- `text_tokens::operator_at` is its definition, read off the calls.
use mathlib.Core.Path.{ap, ◌∙◌}
use Prim.Native.Nat.{ℕ}
use Rattle.text_tokens.specs.Tokens.{slice, token_end, operator_at}
use Rattle.text_operators.specs.OperatorNames.{operator_row}
use Rattle.characters.specs.declared.Class.TheVariants.{Space}
use Rattle.characters.proofs.Runs.{within}
use Rattle.text_tokens.proofs.Tokens.{token_onward}
use Rattle.text_tokens.proofs.operator_at.Goals as goal

pub token_end-end-requires : goal.token_end-end-requires
token_end-end-requires c = rw c.skip_spaces-start.ensures (within Space c.args.s.now c.args.at c.requires)

pub overflow_sub-end : goal.overflow_sub-end
overflow_sub-end c = rw c.token_end-end.ensures (token_onward c.args.s.now c.skip_spaces-start.result)

pub returns : goal.returns
unfolding operator_at
returns c = c.operator_row.ensures
    ∙ ap operator_row (c.part.ensures ∙ ap (slice c.args.s.now c.skip_spaces-start.result) c.token_end-end.ensures ∙ ap (λ (p : ℕ). slice c.args.s.now p (token_end c.args.s.now p)) c.skip_spaces-start.ensures)
