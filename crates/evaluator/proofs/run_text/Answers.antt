-- `evaluator::run_text`: the text, the checks, the devices' places, then the run of the rows.
use Rattle.std.proofs.Common.{rules}
use Rattle.std.proofs.lemmas.Result.{err_from_is_err_and}
use mathlib.Core.Path.{◌≡◌, refl, sym, ◌∙◌}
use native.Mathlib.Omega.{arith}
use Rattle.std.specs.Prelude.{cond, None}
use Rattle.evaluator.specs.Lent.{attached}
use Rattle.text_names.specs.Dictionaries.{entries}
use Rattle.evaluator.proofs.Entries.{widths_narrow, lent_text_refused, lent_state_refused, has_place, place_is, run_ready, run_told}
use Rattle.evaluator.proofs.run_text.Goals.{then-lends, else-lends}
use Rattle.evaluator.proofs.run_text.Goals as goal

pub check-requires : goal.check-requires
check-requires c = widths_narrow _ _ (rw c.in_ok-read.was at c.read.ensures)

pub unwrap-place-requires : goal.unwrap-place-requires
unwrap-place-requires c = has_place _ _ (rw c.in_ok-read.was at c.read.ensures) c.place_of.ensures

pub run_rows-requires : goal.run_rows-requires
run_rows-requires c = let ready = run_ready _ _ (rw c.in_ok-read.was at c.read.ensures) _ c.args.memory.now c.args.budget c.args.rows.now c.check.ensures c.in_ok-check.was in
    record { few_rows = ready.0; whole_memory = ready.1.0; roomy = ready.1.1 }

pub returns-in_err-read : goal.returns-in_err-read
returns-in_err-read c = let p = err_from_is_err_and c.from_residual.result c.from_residual.ensures.1 in
    rw (p.1, p.2)
    (sym (lent_text_refused _ _ (rw c.in_err-read.was at c.read.ensures) c.args.lends c.args.registers.values c.args.memory.now c.args.budget c.args.rows.now c.args.input.now c.args.output.now))

pub returns-in_err-check : goal.returns-in_err-check
returns-in_err-check c = let p = err_from_is_err_and c.from_residual-in_err-check.result c.from_residual-in_err-check.ensures.1 in
    rw (p.1, p.2)
    (sym (lent_state_refused _ _ (rw c.in_ok-read.was at c.read.ensures) c.args.registers.values c.args.memory.now c.args.budget c.args.rows.now c.check.ensures
    c.args.input.now c.args.output.now c.args.lends _ c.in_err-check.was))

pub returns : goal.returns
returns c = let found : c.if-lends.places ≡ cond c.args.lends (attached (entries c.args.text.now c.in_ok-read.read.registers)) None =
    elim c.if-lends.branch [
      | then-lends w ↦ rw w.if-lends.true (w.places-is ∙ w.attach-places.ensures)
      | else-lends w ↦ rw w.if-lends.false w.places-is
    ] in
    c.run_rows.ensures
    ∙ run_told _ _ (rw c.in_ok-read.was at c.read.ensures) c.args.registers.values c.args.memory.now c.args.budget c.args.rows.now c.check.ensures
    c.in_ok-check.was (search rules) refl refl _ (place_is _ _ (rw c.in_ok-read.was at c.read.ensures) c.place_of.ensures c.unwrap-place.ensures)
    c.args.input.now c.args.output.now (record { each = λ k. omega (arith, c.shared_slice_known-2-1.given k) })
    c.args.lends _ found
