-- `text_names::with_name`: the entries before the new one stay.
use mathlib.Core.Path.{refl}
use Rattle.text_names.proofs.Entries.{one_more}
use borrow.Author.Rules.{rules}
use Rattle.text_names.proofs.with_name.Goals as goal

pub returns : goal.returns
returns c = record { count = refl; entries_are = λ text. one_more text c.args.d c.args.start c.args.length c.args.number (search rules) }
