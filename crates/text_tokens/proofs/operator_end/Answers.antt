-- `text_tokens::operator_end` is its definition, read off the calls.
use mathlib.Core.Path.{ap, ◌∙◌}
use Rattle.text_tokens.specs.Tokens.{token_end}
use Rattle.characters.specs.declared.Class.TheVariants.{Space}
use Rattle.characters.proofs.Runs.{within}
use Rattle.text_tokens.proofs.operator_end.Goals as goal

pub token_end-requires : goal.token_end-requires
token_end-requires c = rw c.skip_spaces.ensures (within Space c.args.s.now c.args.at c.requires)

pub returns : goal.returns
returns c = c.token_end.ensures ∙ ap (token_end c.args.s.now) c.skip_spaces.ensures
