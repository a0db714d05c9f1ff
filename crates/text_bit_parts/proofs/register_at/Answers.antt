-- `text_bit_parts::register_at` is its definition, by the next byte.
use mathlib.Core.Path.{sym, ap, ◌∙◌}
use Prim.Native.Nat.{ℕ, ◌+◌}
use native.Mathlib.Omega.{arith}
use Rattle.text_tokens.specs.Signs.{angle_open}
use Rattle.laws.proofs.Lists.{present}
use Rattle.text_tokens.proofs.Tokens.{at_mark, off_mark}
use Rattle.text_bit_parts.specs.References.{part_of, span_at, register_at}
use Rattle.text_bit_parts.proofs.register_at.Goals as goal

pub overflow_add-mark : goal.overflow_add-mark
overflow_add-mark c = omega (arith, present c.args.s.now c.skip_spaces-mark.result angle_open (sym c.byte.ensures ∙ c.if-byte-eq60.true) (omega arith))

pub returns-in_err-span : goal.returns-in_err-span
unfolding register_at part_of
returns-in_err-span c = let t = at_mark c.args.s.now c.args.end c.skip_spaces-mark.result c.byte.result angle_open c.skip_spaces-mark.ensures c.byte.ensures c.if-byte-eq60.true in
    c.from_residual.ensures
    ∙ ap (part_of c.args.register c.args.width) (sym c.in_err-span.was ∙ c.span_at.ensures ∙ ap (λ (k : ℕ). span_at c.args.s.now (k + 1)) c.skip_spaces-mark.ensures)
    ∙ sym (rw (t, register_at))

pub returns-in_ok-span : goal.returns-in_ok-span
unfolding register_at
returns-in_ok-span c = let t = at_mark c.args.s.now c.args.end c.skip_spaces-mark.result c.byte.result angle_open c.skip_spaces-mark.ensures c.byte.ensures c.if-byte-eq60.true in
    c.part_of.ensures
    ∙ ap (part_of c.args.register c.args.width) (sym c.in_ok-span.was ∙ c.span_at.ensures ∙ ap (λ (k : ℕ). span_at c.args.s.now (k + 1)) c.skip_spaces-mark.ensures)
    ∙ sym (rw (t, register_at))

pub returns-else-byte-eq60 : goal.returns-else-byte-eq60
unfolding register_at
returns-else-byte-eq60 c = let t = off_mark c.args.s.now c.args.end c.skip_spaces-mark.result c.byte.result angle_open c.skip_spaces-mark.ensures c.byte.ensures c.if-byte-eq60.false in
    rw (t, register_at)
