-- `text_declaration::lines::at_line`: the label stands behind `at` and a TAB.
use mathlib.Core.Path.{sym, ◌∙◌}
use native.Mathlib.Omega.{arith}
use Rattle.text_declaration.specs.declared.faults.Fault.TheVariants.{Line}
use Rattle.text_declaration.specs.Lines.{at_word, at_line, add_label}
use Rattle.text_declaration.proofs.Fields.{stands}
use Rattle.text_declaration.proofs.Declarations.{plain_as, plain_refused, at_fields, at_malformed}
use Rattle.text_declaration.proofs.lines.at_line.Goals as goal

pub returns-then-not-has_fields : goal.returns-then-not-has_fields
returns-then-not-has_fields c = plain_refused c.args.text.now (λ p. at_line p c.args.line.now) c.args.q Line
    (λ rs counted. at_malformed _ c.args.line.now (sym c.has_fields.ensures ∙ c.if-not-has_fields.true))

pub add_label-requires-clause-stands : goal.add_label-requires-clause-stands
add_label-requires-clause-stands c = (stands c.args.text.now c.args.line.now at_word 2 c.args.place (omega arith)
    (sym c.has_fields.ensures ∙ c.if-not-has_fields.false) c.requires.is_at c.requires.stands _ c.field_of.ensures c.requires.fits).0

pub add_label-requires-clause-fits : goal.add_label-requires-clause-fits
add_label-requires-clause-fits c = (stands c.args.text.now c.args.line.now at_word 2 c.args.place (omega arith)
    (sym c.has_fields.ensures ∙ c.if-not-has_fields.false) c.requires.is_at c.requires.stands _ c.field_of.ensures c.requires.fits).1

pub returns : goal.returns
returns c = let fields = sym c.has_fields.ensures ∙ c.if-not-has_fields.false in
    plain_as c.args.text.now (λ p. at_line p c.args.line.now) (λ p. add_label p _) c.args.q c.add_label.result
    (λ rs counted. at_fields _ c.args.line.now fields ∙ rw c.field_of.ensures) c.add_label.ensures
