-- `text_expression::read_destination`: `M` or a name.
use mathlib.Core.Path.{sym, ◌∙◌}
use native.Mathlib.Omega.{arith}
use Rattle.std.specs.Prelude.{Some, None}
use Rattle.text_names.specs.Dictionaries.{entries}
use Rattle.characters.specs.declared.Class.TheVariants as class
use Rattle.text_code.specs.declared.Cursor.{Cursor}
use Rattle.characters.proofs.Runs.{within}
use Rattle.text_expression.specs.Expression.{memory_at, of_name, destination}
use Rattle.text_expression.proofs.Destinations.{aimed, pointed, to_memory_lem, to_name, not_trimmed}
use Rattle.text_expression.proofs.read_destination.Goals as goal

pub memory_place-requires : goal.memory_place-requires
memory_place-requires c = record { few_names = c.requires.few_names; words_fit = c.requires.words_fit; pieces_fit = c.requires.pieces_fit; within_field = omega (arith, c.run_end-end.ensures, within class.Word c.args.field.now.bytes.now 0 (omega arith)) }

pub returns-then-is_same : goal.returns-then-is_same
returns-then-is_same c = let rs = entries c.args.field.now.text.now c.args.field.now.registers in
    let from : Cursor = record { place = 0; words = c.args.from.words; pieces = c.args.from.pieces } in
    let is-memory = sym c.is_same.ensures ∙ c.if-is_same.true in
    let trims = sym c.is_trimmed.ensures ∙ c.if-is_trimmed.true in
    aimed c.memory_place.result (destination rs c.args.field.now.bytes.now) (memory_at rs c.args.field.now.bytes.now c.run_end-end.result) c.args.field.now.bytes.now from 0 c.args.code.now c.memory_place.new.code
    (to_memory_lem rs c.args.field.now.bytes.now trims _ _ c.run_end-end.ensures c.part.ensures is-memory)
    c.memory_place.ensures

pub returns-in_err-reference : goal.returns-in_err-reference
unfolding of_name
returns-in_err-reference c = let rs = entries c.args.field.now.text.now c.args.field.now.registers in
    let from : Cursor = record { place = 0; words = c.args.from.words; pieces = c.args.from.pieces } in
    let no_memory = sym c.is_same.ensures ∙ c.if-is_same.false in
    let trims = sym c.is_trimmed.ensures ∙ c.if-is_trimmed.true in
    rw c.from_residual.ensures
    (to_name rs c.args.field.now.bytes.now trims _ _ c.run_end-end.ensures c.part.ensures no_memory None (sym c.in_err-reference.was ∙ c.reference_at.ensures))

pub returns-in_ok-reference : goal.returns-in_ok-reference
returns-in_ok-reference c = let rs = entries c.args.field.now.text.now c.args.field.now.registers in
    let from : Cursor = record { place = 0; words = c.args.from.words; pieces = c.args.from.pieces } in
    let no_memory = sym c.is_same.ensures ∙ c.if-is_same.false in
    let trims = sym c.is_trimmed.ensures ∙ c.if-is_trimmed.true in
    pointed c.named_place.result (destination rs c.args.field.now.bytes.now) (of_name c.args.field.now.bytes.now (Some c.in_ok-reference.reference)) c.args.field.now.bytes.now from c.args.code.now
    (to_name rs c.args.field.now.bytes.now trims _ _ c.run_end-end.ensures c.part.ensures no_memory _ (sym c.in_ok-reference.was ∙ c.reference_at.ensures))
    c.named_place.ensures

pub returns-else-is_trimmed : goal.returns-else-is_trimmed
returns-else-is_trimmed c = not_trimmed (entries c.args.field.now.text.now c.args.field.now.registers) c.args.field.now.bytes.now (sym c.is_trimmed.ensures ∙ c.if-is_trimmed.false)
