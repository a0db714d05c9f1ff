-- `characters::is_same`: the library's equality is the definition's.
use mathlib.Core.Path.{◌∙◌}
use Rattle.characters.proofs.Strings.{same_bytes}
use Rattle.characters.proofs.is_same.Goals as goal

pub returns : goal.returns
returns c = c.eq.ensures ∙ same_bytes c.args.a.now c.args.b.now
