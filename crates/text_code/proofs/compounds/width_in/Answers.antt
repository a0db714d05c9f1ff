-- `text_code::compounds::width_in`: the table's kind, and the width by it.
use mathlib.Core.Path.{ap, ◌∙◌}
use Rattle.text_operators.specs.declared.Entry.{Entry}
use Rattle.text_operators.specs.Operators.{width_by}
use Rattle.text_code.proofs.compounds.width_in.Goals as goal

pub returns : goal.returns
returns c = c.width_by.ensures ∙ ap (λ (e : Entry). width_by e.widths c.args.left c.args.right) c.entry_in-entry.ensures
