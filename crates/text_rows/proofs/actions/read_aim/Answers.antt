-- `text_rows::actions::read_aim`: the cells of the place that was read.
use mathlib.Core.Path.{sym, subst}
use Rattle.std.specs.Prelude.{Some}
use Rattle.text_names.specs.Dictionaries.{entries}
use Rattle.text_expression.specs.Expression.{destination}
use Rattle.text_rows.specs.declared.cells.Aim.{Aim}
use Rattle.text_rows.specs.Stored.{Aimed}
use Rattle.text_rows.proofs.Assignments.{aimed, in_order}
use Rattle.text_rows.proofs.actions.read_aim.Goals as goal

pub returns-in_err-place : goal.returns-in_err-place
returns-in_err-place c = rw c.from_residual.ensures (rw c.in_err-place.was at c.read_destination.ensures)

pub aim_of-requires : goal.aim_of-requires
aim_of-requires c = in_order (entries c.args.field.now.text.now c.args.field.now.registers) c.args.field.now.bytes.now _ _ _ c.in_ok-place.place (rw c.in_ok-place.was at c.read_destination.ensures)

pub returns : goal.returns
returns c = let d = destination (entries c.args.field.now.text.now c.args.field.now.registers) c.args.field.now.bytes.now in
    subst (λ (r : Aim). Aimed d c.args.field.now.bytes.now (Some r) c.args.from c.args.code.now c.read_destination.new.code) (sym c.aim_of.ensures)
    (aimed d c.args.field.now.bytes.now c.args.from c.args.code.now c.read_destination.new.code c.in_ok-place.place (rw c.in_ok-place.was at c.read_destination.ensures))
