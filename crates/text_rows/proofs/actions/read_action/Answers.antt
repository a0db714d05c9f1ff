-- `text_rows::actions::read_action`: destination and value, one behind the other.
use mathlib.Core.Path.{refl, sym, ap, ◌∙◌}
use native.Mathlib.Omega.{arith}
use Rattle.text_names.specs.Dictionaries.{entries}
use Rattle.text_expression.specs.Expression.{expression, destination}
use Rattle.text_grammar.proofs.Calls.{faulty}
use Rattle.text_declaration.proofs.Fields.{field_2_le, fields_2_3_le}
use Rattle.text_rows.specs.declared.actions.RowRead.{RowRead}
use Rattle.text_rows.proofs.RowLines.{read_as}
use Rattle.text_rows.proofs.Assignments.{row_forms, with_fields, no_value, no_destination}
use Rattle.text_rows.proofs.actions.read_action.Goals as goal

pub read_aim-requires-clause-words_fit : goal.read_aim-requires-clause-words_fit
read_aim-requires-clause-words_fit c = omega (arith, c.requires.words_fit, field_2_le c.args.line.now _ c.field_of.ensures)

pub read_aim-requires-clause-pieces_fit : goal.read_aim-requires-clause-pieces_fit
read_aim-requires-clause-pieces_fit c = omega (arith, c.requires.pieces_fit, field_2_le c.args.line.now _ c.field_of.ensures)

pub returns-in_err-aim : goal.returns-in_err-aim
returns-in_err-aim c = rw c.from_residual.ensures
    (λ e x.
    no_destination e x _ _
    (ap (destination (entries c.args.text.now c.args.d)) (sym c.field_of.ensures)
    ∙ rw c.in_err-aim.was at c.read_aim.ensures))

pub read_expression-requires-clause-words_fit : goal.read_expression-requires-clause-words_fit
read_expression-requires-clause-words_fit c = let y = (rw c.in_ok-aim.was at c.read_aim.ensures).aiming in
    omega (arith, c.requires.words_fit, fields_2_3_le c.args.line.now _ _ c.field_of.ensures c.field_of-2.ensures, y.words_few)

pub read_expression-requires-clause-pieces_fit : goal.read_expression-requires-clause-pieces_fit
read_expression-requires-clause-pieces_fit c = let y = (rw c.in_ok-aim.was at c.read_aim.ensures).aiming in
    omega (arith, c.requires.pieces_fit, fields_2_3_le c.args.line.now _ _ c.field_of.ensures c.field_of-2.ensures, y.pieces_few)

pub do_cells-requires : goal.do_cells-requires
do_cells-requires c = let y = (rw c.in_ok-aim.was at c.read_aim.ensures).aiming in
    let f = fields_2_3_le c.args.line.now _ _ c.field_of.ensures c.field_of-2.ensures in
    let g = rw c.in_ok-value.was at c.read_expression.ensures.grown in
    (c.requires.start_in_table, (omega (arith, c.requires.words_fit), (omega (arith, c.requires.words_fit, f, y.words_few), omega (arith, c.requires.words_fit, f, y.words_few, g.words_most, g.inside))))

pub returns : goal.returns
returns c = let rs = entries c.args.text.now c.args.d in
    let y = rw c.in_ok-aim.was at c.read_aim.ensures in
    let m = rw c.in_ok-value.was at c.read_expression.ensures.meets in
    let k = read_as (expression rs c.field_of-2.result.now) c.in_ok-value.value.end c.in_ok-value.value.width (record { place = 0; words = c.in_ok-aim.aim.end.words; pieces = c.in_ok-aim.aim.end.pieces }) c.read_aim.new.code c.read_expression.new.code m in
    let r : RowRead = record { cells = c.do_cells.result; end = c.in_ok-value.value.end } in
    λ e x u from before i h.
    with_fields rs c.args.line.now r from before c.read_expression.new.code e x c.field_of.result.now c.field_of-2.result.now c.field_of.ensures c.field_of-2.ensures
    (row_forms e x u from c.args.condition before c.args.code.now h y.to c.field_of.result.now c.in_ok-aim.aim c.read_aim.new.code y.aiming (expression rs c.field_of-2.result.now) c.in_ok-value.value.end c.in_ok-value.value.width c.read_expression.new.code 0 k c.args.start r (destination rs c.field_of.result.now) y.is i
    c.do_cells.ensures refl)

pub returns-in_err-value : goal.returns-in_err-value
returns-in_err-value c = rw c.from_residual-in_err-value.ensures
    (λ e x.
    no_value e x _ _
    (ap (expression _) (sym c.field_of-2.ensures)
    ∙ faulty _ _ _ _ (rw c.in_err-value.was at c.read_expression.ensures.meets)))
