-- `text_rows::rows::go_line`: condition, label, and the row if there is room for it.
use mathlib.Core.Path.{sym, ap, ◌∙◌}
use native.Mathlib.Omega.{arith}
use Rattle.text_fields.specs.Fields.{lines}
use Rattle.text_expression.specs.Expression.{expression}
use Rattle.text_grammar.proofs.Calls.{faulty}
use Rattle.text_declaration.specs.declared.faults.Fault.TheVariants.{Line, Expression}
use Rattle.text_declaration.specs.Stored.{progress_of}
use Rattle.text_declaration.proofs.Fields.{field_1_le}
use Rattle.text_rows.specs.Lines.{go_line}
use Rattle.text_rows.proofs.RowLines.{takes_refused, go_malformed, go_jumps, go_unread}
use Rattle.text_rows.proofs.rows.go_line.Goals as goal

pub returns-then-not-has_fields : goal.returns-then-not-has_fields
returns-then-not-has_fields c = takes_refused _ (λ p. go_line p _ c.args.line.now) _ c.args.q Line
    (λ rs. go_malformed _ c.args.line.now c.args.below.now (sym c.has_fields.ensures ∙ c.if-not-has_fields.true))

pub read_expression-requires-clause-words_fit : goal.read_expression-requires-clause-words_fit
read_expression-requires-clause-words_fit c = rw c.counted.ensures
    (omega (arith, c.requires.line_short, c.requires.within.few_words, c.requires.within.few_pieces, field_1_le c.args.line.now _ c.field_of.ensures))

pub read_expression-requires-clause-pieces_fit : goal.read_expression-requires-clause-pieces_fit
read_expression-requires-clause-pieces_fit c = rw c.counted.ensures
    (omega (arith, c.requires.line_short, c.requires.within.few_pieces, field_1_le c.args.line.now _ c.field_of.ensures))

pub add_go-requires-clause-end_in_table : goal.add_go-requires-clause-end_in_table
add_go-requires-clause-end_in_table c = let g = rw (c.counted.ensures, c.in-Some.is) at c.read_expression.ensures.grown in
    omega (arith, c.requires.line_short, c.requires.within.few_words, c.requires.within.few_pieces, field_1_le c.args.line.now _ c.field_of.ensures, g.words_most, g.inside)

pub returns-in_default : goal.returns-in_default
returns-in_default c = takes_refused _ (λ p. go_line p (lines c.args.below.now) c.args.line.now) _ c.args.q Expression
    (λ rs.
    go_unread (progress_of c.args.text.now c.args.q rs) c.args.line.now c.args.below.now
    (sym c.has_fields.ensures ∙ c.if-not-has_fields.false)
    (ap (expression _) (sym c.field_of.ensures) ∙ faulty _ _ _ _ (rw c.in_default.is at c.read_expression.ensures.meets)))

pub returns : goal.returns
returns c = go_jumps c.args.text.now c.args.q c.requires.within c.args.n c.args.line.now c.args.below.now c.field_of.result.now
    (sym c.has_fields.ensures ∙ c.if-not-has_fields.false) c.field_of.ensures
    c.in-Some.condition.end c.in-Some.condition.width _ _ (rw (c.counted.ensures, c.in-Some.is) at c.read_expression.ensures.meets) c.add_go.result c.add_go.ensures
