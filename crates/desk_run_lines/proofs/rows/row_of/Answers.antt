-- `desk_run_lines::rows::row_of`: row k of the text is a row of what is left of it.
use mathlib.Core.Path.{sym, ap, ap₂, ◌∙◌}
use mathlib.Core.List.{[]}
use lib.Dec.{eqb}
use lib.ListN.{get_or}
use borrow.Author.Tests.{eqb-true}
use Rattle.text_fields.specs.Fields.{Line, lines}
use Rattle.laws.proofs.Joined.{and_left, and_right}
use Rattle.text_targets.specs.Targets.{is_row}
use Rattle.desk_run_lines.specs.Rows.{row_texts}
use Rattle.desk_run_lines.proofs.RowTexts.{row_found, row_passed, row_none}
use Rattle.desk_run_lines.proofs.rows.row_of.Goals as goal

pub loop-line-init : goal.loop-line-init
loop-line-init c =
    let rest = ap (λ (t : _). t.rest.now) c.into_iter-line-iterator.ensures.into_iter_gives ∙ c.lines_of-line-items.ensures in
    ap₂ (λ t n. get_or (row_texts (lines t)) n []) (sym rest) (sym c.saturating_sub-left.ensures)

pub returns-then-row-left : goal.returns-then-row-left
returns-then-row-left c = let y = c.in-Some.ensures.steps in
    let none = eqb-true c.loop-line.left 0 (and_right c.is_row-row.result (eqb c.loop-line.left 0) c.if-row-left.true) in
    let is = sym (c.is_row-row.ensures ∙ ap (λ (l : Line). is_row l.bytes) y.line_is) ∙ and_left c.is_row-row.result (eqb c.loop-line.left 0) c.if-row-left.true in
    ap (λ (l : Line). l.bytes) y.line_is
    ∙ sym (c.loop-line.invariant ∙ ap (λ n. get_or (row_texts (lines c.loop-line.line-iterator.rest.now)) n []) none ∙ row_found c.loop-line.line-iterator.rest.now y.some is)

pub loop-line-preserved : goal.loop-line-preserved
loop-line-preserved c = let y = c.in-Some.ensures.steps in
    let is = sym (c.is_row-row.ensures ∙ ap (λ (l : Line). is_row l.bytes) y.line_is) in
    c.loop-line.invariant ∙ row_passed c.loop-line.line-iterator.rest.now y.some c.is_row-row.result c.loop-line.left is c.if-row-left.false
    ∙ ap₂ (λ t n. get_or (row_texts (lines t)) n []) (sym y.left_is) (sym c.left_after-left.ensures)

pub returns : goal.returns
returns c = row_none c.loop-line.line-iterator.rest.now c.loop-line.left c.in-None.ensures.steps.0 ∙ sym c.loop-line.invariant
