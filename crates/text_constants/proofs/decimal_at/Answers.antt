-- `text_constants::decimal_at`: the tests of its definition, in its order.
use mathlib.Core.Path.{◌≡◌, sym, ap, ◌∙◌}
use mathlib.Core.Bool.{Bool, true, not, ◌&&◌, ◌||◌}
use Prim.Native.Nat.{ℕ, ◌+◌, ◌-◌, ◌≤◌, ◌<◌}
use native.Mathlib.Omega.{arith}
use borrow.Author.Tests.{leb-true, ltb-false}
use lib.Dec.{eqb, leb}
use lib.ListN.{length}
use Rattle.characters.specs.Ascii.{digit}
use Rattle.characters.specs.Characters.{run_end}
use Rattle.text_constants.specs.Constants.{number_at, decimal_digits, plain}
use Rattle.characters.specs.declared.Class.TheVariants.{Word}
use Rattle.characters.proofs.Runs.{after_start, before_end}
use Rattle.text_constants.proofs.Readings.{decimal_found, decimal_large, decimal_none, decimal_past_end}
use Rattle.laws.proofs.Joined.{and_left, and_right}
use Rattle.text_constants.proofs.decimal_at.Goals as goal

-- a decimal that is not too long, whatever else is asked of it
upper : (a b z : Bool) (at end : ℕ) → a && (b && leb end (at + decimal_digits) && z) ≡ true → end ≤ at + decimal_digits
upper a b z at end t =
    leb-true end (at + decimal_digits)
    (and_right b (leb end (at + decimal_digits)) (and_left (b && leb end (at + decimal_digits)) z (and_right a (b && leb end (at + decimal_digits) && z) t)))

pub returns-in_err-first : goal.returns-in_err-first
returns-in_err-first c = let looked = c.in_err-first.ensures.lookup in c.from_residual.ensures ∙ sym (decimal_past_end c.args.s.now c.args.at (ltb-false c.args.at (length c.args.s.now) (sym looked.0)))

pub overflow_sub-end : goal.overflow_sub-end
overflow_sub-end c = after_start _ c.args.s.now c.args.at c.run_end-end.result c.run_end-end.ensures

pub digits_value-value-requires-clause-within_line : goal.digits_value-value-requires-clause-within_line
digits_value-value-requires-clause-within_line c = let start : c.args.at < length c.args.s.now = c.in_ok-first.ensures.lookup.3.0 in
    let onward = after_start _ c.args.s.now c.args.at c.run_end-end.result c.run_end-end.ensures in
    let within = before_end _ c.args.s.now c.args.at c.run_end-end.result c.run_end-end.ensures (omega arith) in
    let few =
    upper c.is_digit.result (eqb c.run_end-digits.result c.run_end-end.result)
    (not (eqb c.in_ok-first.field-0.now (digit 0)) || eqb c.run_end-end.result (c.args.at + 1)) c.args.at c.run_end-end.result c.if-is_digit-plain.true in
    omega arith

pub returns-then-value-le-LARGEST : goal.returns-then-value-le-LARGEST
returns-then-value-le-LARGEST c = let t = rw (c.is_digit.ensures, c.in_ok-first.ensures.lookup.3.1 0, c.run_end-digits.ensures, c.run_end-end.ensures) at c.if-is_digit-plain.true in
    let value = c.digits_value-value.ensures ∙ ap (λ (e : ℕ). number_at 10 c.args.s.now c.args.at (e - c.args.at) 0) c.run_end-end.ensures in
    ap (λ (p : ℕ). plain c.digits_value-value.result p) c.run_end-end.ensures
    ∙ ap (λ (v : ℕ). plain v (run_end Word c.args.s.now c.args.at)) value
    ∙ sym (decimal_found c.args.s.now c.args.at t (omega (arith, value, c.if-value-le-LARGEST.true)))

pub returns-else-value-le-LARGEST : goal.returns-else-value-le-LARGEST
returns-else-value-le-LARGEST c = let t = rw (c.is_digit.ensures, c.in_ok-first.ensures.lookup.3.1 0, c.run_end-digits.ensures, c.run_end-end.ensures) at c.if-is_digit-plain.true in
    let value = c.digits_value-value.ensures ∙ ap (λ (e : ℕ). number_at 10 c.args.s.now c.args.at (e - c.args.at) 0) c.run_end-end.ensures in
    sym (decimal_large c.args.s.now c.args.at t (omega (arith, value, c.if-value-le-LARGEST.false)))

pub returns-else-is_digit-plain : goal.returns-else-is_digit-plain
returns-else-is_digit-plain c = let t = rw (c.is_digit.ensures, c.in_ok-first.ensures.lookup.3.1 0, c.run_end-digits.ensures, c.run_end-end.ensures) at c.if-is_digit-plain.false in
    sym (decimal_none c.args.s.now c.args.at t)
