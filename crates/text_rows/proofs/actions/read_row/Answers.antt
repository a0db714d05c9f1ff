-- `text_rows::actions::read_row`: the condition, then the rest.
use mathlib.Core.Path.{sym, ap, ◌∙◌}
use native.Mathlib.Omega.{arith}
use Rattle.std.specs.Prelude.{Some}
use Rattle.text_names.specs.Dictionaries.{entries}
use Rattle.text_expression.specs.Expression.{expression}
use Rattle.text_grammar.proofs.Calls.{faulty, moved}
use Rattle.text_declaration.proofs.Fields.{field_1_le, field_1_rest_le}
use Rattle.text_rows.proofs.RowLines.{read_as}
use Rattle.text_rows.proofs.Assignments.{no_condition, acted}
use Rattle.text_rows.proofs.actions.read_row.Goals as goal

pub read_expression-requires-clause-words_fit : goal.read_expression-requires-clause-words_fit
read_expression-requires-clause-words_fit c = omega (arith, c.requires.words_fit, field_1_le c.args.line.now _ c.field_of.ensures)

pub read_expression-requires-clause-pieces_fit : goal.read_expression-requires-clause-pieces_fit
read_expression-requires-clause-pieces_fit c = omega (arith, c.requires.pieces_fit, field_1_le c.args.line.now _ c.field_of.ensures)

pub read_action-requires-clause-words_fit : goal.read_action-requires-clause-words_fit
read_action-requires-clause-words_fit c = let g = rw c.in_ok-condition.was at c.read_expression.ensures.grown in
    omega (arith, c.requires.words_fit, field_1_rest_le c.args.line.now _ c.field_of.ensures, g.words_most, g.inside)

pub read_action-requires-clause-pieces_fit : goal.read_action-requires-clause-pieces_fit
read_action-requires-clause-pieces_fit c = let g = rw c.in_ok-condition.was at c.read_expression.ensures.grown in
    omega (arith, c.requires.pieces_fit, field_1_rest_le c.args.line.now _ c.field_of.ensures, g.pieces_most, g.inside)

pub returns : goal.returns
returns c = let rs = entries c.args.text.now c.args.d in
    let m = rw c.in_ok-condition.was at c.read_expression.ensures.meets in
    let k = read_as (expression rs c.field_of.result.now) c.in_ok-condition.condition.end c.in_ok-condition.condition.width c.args.from c.args.code.now c.read_expression.new.code (moved c.args.from 0 (expression rs c.field_of.result.now) (Some c.in_ok-condition.condition) c.args.code.now c.read_expression.new.code m) in
    acted rs c.args.line.now c.args.from c.in_ok-condition.condition.end c.in_ok-condition.condition.width c.args.code.now c.read_expression.new.code c.read_action.new.code c.field_of.result.now c.field_of.ensures k c.read_action.result c.read_action.ensures

pub returns-in_err-condition : goal.returns-in_err-condition
returns-in_err-condition c = rw c.from_residual.ensures
    (no_condition _ _ _
    (ap (expression _) (sym c.field_of.ensures)
    ∙ faulty _ _ _ _ (rw c.in_err-condition.was at c.read_expression.ensures.meets)))
