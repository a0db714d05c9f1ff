-- `text_rows::rows::do_line`: the row that was read, if there is room for it.
use mathlib.Core.Path.{sym, ◌∙◌}
use Rattle.text_declaration.specs.declared.faults.Fault.TheVariants.{Line}
use Rattle.text_rows.specs.Lines.{do_line}
use Rattle.text_rows.proofs.RowLines.{takes_refused, do_malformed, do_assigned, do_unassigned}
use Rattle.text_rows.proofs.rows.do_line.Goals as goal

pub returns-then-not-has_fields : goal.returns-then-not-has_fields
returns-then-not-has_fields c = takes_refused _ (λ p. do_line p c.args.line.now) _ c.args.q Line
    (λ rs. do_malformed _ c.args.line.now (sym c.has_fields.ensures ∙ c.if-not-has_fields.true))

pub returns-in-Some : goal.returns-in-Some
returns-in-Some c = do_assigned c.args.text.now c.args.q c.args.line.now (sym c.has_fields.ensures ∙ c.if-not-has_fields.false) c.requires.within
    c.in-Some.row c.add_row.result (rw (c.counted.ensures, c.in-Some.is) at c.read_row.ensures) c.add_row.ensures

pub returns-in-None : goal.returns-in-None
returns-in-None c = do_unassigned c.args.text.now c.args.q c.args.line.now (sym c.has_fields.ensures ∙ c.if-not-has_fields.false)
    (rw (c.counted.ensures, c.in-None.is) at c.read_row.ensures)
