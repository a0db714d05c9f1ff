-- `text_constants::constant_at`: by the mark.
use mathlib.Core.Path.{sym, ap, ◌∙◌}
use native.Mathlib.Omega.{arith}
use lib.ListN.{length}
use borrow.Author.Tests.{ltb-false}
use Rattle.characters.specs.declared.Class.TheVariants.{Binary, Octal}
use Rattle.text_constants.specs.Constants.{binary_digits, octal_digits, of_decimal}
use Rattle.text_constants.proofs.Digits.{binary_sized, octal_sized}
use Rattle.text_constants.proofs.Readings.{by_binary, by_octal, by_decimal, behind_as, constant_past_end}
use Rattle.text_constants.proofs.constant_at.Goals as goal

pub returns-in_err-mark : goal.returns-in_err-mark
returns-in_err-mark c = let looked = c.in_err-mark.ensures.lookup in
    c.from_residual.ensures ∙ sym (constant_past_end c.args.s.now c.args.at (ltb-false c.args.at (length c.args.s.now) (sym looked.0)))

pub marked_at-requires : goal.marked_at-requires
marked_at-requires c = binary_sized _ (omega arith)

pub returns-then-mark-eq39 : goal.returns-then-mark-eq39
returns-then-mark-eq39 c = let first = c.in_ok-mark.ensures.lookup.3.1 0 in
    behind_as c.args.s.now c.args.at Binary 2 1 binary_digits _ _ (by_binary c.args.s.now c.args.at (omega (arith, first, c.if-mark-eq39.true))) (omega arith) c.marked_at.ensures

pub marked_at-requires-then-mark-eq35 : goal.marked_at-requires-then-mark-eq35
marked_at-requires-then-mark-eq35 c = octal_sized _ (omega arith)

pub returns-then-mark-eq35 : goal.returns-then-mark-eq35
returns-then-mark-eq35 c = let first = c.in_ok-mark.ensures.lookup.3.1 0 in
    behind_as c.args.s.now c.args.at Octal 8 3 octal_digits _ _ (by_octal c.args.s.now c.args.at (omega (arith, first, c.if-mark-eq35.true))) (omega arith) c.marked_at-then-mark-eq35.ensures

pub returns-in_err-decimal_at : goal.returns-in_err-decimal_at
unfolding of_decimal
returns-in_err-decimal_at c = let first = c.in_ok-mark.ensures.lookup.3.1 0 in
    c.from_residual-in_err-decimal_at.ensures
    ∙ ap of_decimal (sym c.in_err-decimal_at.was ∙ c.decimal_at.ensures)
    ∙ sym (by_decimal c.args.s.now c.args.at (λ e. c.if-mark-eq39.false (omega (arith, first, e))) (λ e. c.if-mark-eq35.false (omega (arith, first, e))))

pub returns : goal.returns
returns c = let first = c.in_ok-mark.ensures.lookup.3.1 0 in
    c.from_decimal.ensures
    ∙ ap of_decimal (sym c.in_ok-decimal_at.was ∙ c.decimal_at.ensures)
    ∙ sym (by_decimal c.args.s.now c.args.at (λ e. c.if-mark-eq39.false (omega (arith, first, e))) (λ e. c.if-mark-eq35.false (omega (arith, first, e))))
