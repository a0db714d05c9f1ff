-- `text_declaration::lines::add_label`: the dictionary has the label that stands in the text.
use mathlib.Core.Path.{sym, ◌∙◌}
use Rattle.text_declaration.proofs.Declarations.{one_label, no_label, bad_label}
use Rattle.text_declaration.proofs.lines.add_label.Goals as goal

pub returns-then-not-is_new_label : goal.returns-then-not-is_new_label
returns-then-not-is_new_label c = bad_label c.args.text.now c.args.label.now c.args.q c.requires.within
    (sym c.is_new_label.ensures ∙ c.if-not-is_new_label.true)

pub returns-then-q-ge-MOST_LABELS : goal.returns-then-q-ge-MOST_LABELS
returns-then-q-ge-MOST_LABELS c = no_label c.args.text.now c.args.label.now c.args.q c.requires.within
    (sym c.is_new_label.ensures ∙ c.if-not-is_new_label.false) c.if-q-ge-MOST_LABELS.true

pub returns : goal.returns
returns c = one_label c.args.text.now c.args.label.now c.args.q c.requires.within _ c.args.start
    (sym c.is_new_label.ensures ∙ c.if-not-is_new_label.false) c.if-q-ge-MOST_LABELS.false c.with_name-labels.ensures c.requires.stands
