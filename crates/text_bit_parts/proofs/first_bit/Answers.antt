-- `text_bit_parts::first_bit` is its definition, case by case.
use mathlib.Core.Path.{sym, ap, ◌∙◌}
use Prim.Native.Nat.{ℕ, ◌+◌}
use native.Mathlib.Omega.{arith}
use Rattle.laws.proofs.Lists.{present}
use Rattle.text_tokens.proofs.Tokens.{at_mark, off_mark}
use Rattle.text_tokens.specs.Tokens.{skip}
use Rattle.text_tokens.specs.Signs.{angle_close, colon}
use Rattle.text_bit_parts.specs.References.{first_bit, second_bit}
use Rattle.text_constants.specs.Constants.{decimal_at}
use Rattle.text_bit_parts.proofs.first_bit.Goals as goal

pub overflow_add-result : goal.overflow_add-result
overflow_add-result c = omega (arith, present c.args.s.now c.skip_spaces-end.result angle_close (sym c.byte-mark.ensures ∙ c.if-mark-eq62.true) (omega arith))

pub returns-then-mark-eq62 : goal.returns-then-mark-eq62
unfolding first_bit
returns-then-mark-eq62 c = let t = at_mark c.args.s.now c.args.first.place c.skip_spaces-end.result c.byte-mark.result angle_close c.skip_spaces-end.ensures c.byte-mark.ensures c.if-mark-eq62.true in
    rw (c.skip_spaces-end.ensures, t, first_bit)

pub overflow_add-end : goal.overflow_add-end
overflow_add-end c = omega (arith, present c.args.s.now c.skip_spaces-end.result colon (sym c.byte-mark.ensures ∙ c.if-mark-eq58.true) (omega arith))

pub returns-in_err-last : goal.returns-in_err-last
unfolding first_bit second_bit
returns-in_err-last c = let t = off_mark c.args.s.now c.args.first.place c.skip_spaces-end.result c.byte-mark.result angle_close c.skip_spaces-end.ensures c.byte-mark.ensures c.if-mark-eq62.false in
    let u = at_mark c.args.s.now c.args.first.place c.skip_spaces-end.result c.byte-mark.result colon c.skip_spaces-end.ensures c.byte-mark.ensures c.if-mark-eq58.true in
    c.from_residual.ensures
    ∙ ap (second_bit c.args.s.now c.args.first.value) (sym c.in_err-last.was ∙ c.decimal_at.ensures ∙ ap (decimal_at c.args.s.now) (c.skip_spaces.ensures ∙ ap (λ (k : ℕ). skip c.args.s.now (k + 1)) c.skip_spaces-end.ensures))
    ∙ sym (rw (t, u, first_bit))

pub returns-then-mark-eq58 : goal.returns-then-mark-eq58
unfolding first_bit
returns-then-mark-eq58 c = let t = off_mark c.args.s.now c.args.first.place c.skip_spaces-end.result c.byte-mark.result angle_close c.skip_spaces-end.ensures c.byte-mark.ensures c.if-mark-eq62.false in
    let u = at_mark c.args.s.now c.args.first.place c.skip_spaces-end.result c.byte-mark.result colon c.skip_spaces-end.ensures c.byte-mark.ensures c.if-mark-eq58.true in
    c.second_bit.ensures
    ∙ ap (second_bit c.args.s.now c.args.first.value) (sym c.in_ok-last.was ∙ c.decimal_at.ensures ∙ ap (decimal_at c.args.s.now) (c.skip_spaces.ensures ∙ ap (λ (k : ℕ). skip c.args.s.now (k + 1)) c.skip_spaces-end.ensures))
    ∙ sym (rw (t, u, first_bit))

pub returns : goal.returns
unfolding first_bit
returns c = let t = off_mark c.args.s.now c.args.first.place c.skip_spaces-end.result c.byte-mark.result angle_close c.skip_spaces-end.ensures c.byte-mark.ensures c.if-mark-eq62.false in
    let u = off_mark c.args.s.now c.args.first.place c.skip_spaces-end.result c.byte-mark.result colon c.skip_spaces-end.ensures c.byte-mark.ensures c.if-mark-eq58.false in
    rw (t, u, first_bit)
