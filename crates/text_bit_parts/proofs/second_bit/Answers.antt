-- `text_bit_parts::second_bit` is its definition, case by case.
use mathlib.Core.Path.{sym, ◌∙◌}
use native.Mathlib.Omega.{arith}
use Rattle.text_tokens.specs.Signs.{angle_close}
use Rattle.laws.proofs.Lists.{present}
use Rattle.text_tokens.proofs.Tokens.{at_mark, off_mark}
use Rattle.text_bit_parts.specs.References.{second_bit}
use Rattle.text_bit_parts.proofs.second_bit.Goals as goal

pub overflow_add-result : goal.overflow_add-result
overflow_add-result c = omega (arith, present c.args.s.now c.skip_spaces-end.result angle_close (sym c.byte.ensures ∙ c.if-byte-eq62.true) (omega arith))

pub returns-then-byte-eq62 : goal.returns-then-byte-eq62
unfolding second_bit
returns-then-byte-eq62 c = let t = at_mark c.args.s.now c.args.last.place c.skip_spaces-end.result c.byte.result angle_close c.skip_spaces-end.ensures c.byte.ensures c.if-byte-eq62.true in
    rw (c.skip_spaces-end.ensures, t, second_bit)

pub returns-else-byte-eq62 : goal.returns-else-byte-eq62
unfolding second_bit
returns-else-byte-eq62 c = let t = off_mark c.args.s.now c.args.last.place c.skip_spaces-end.result c.byte.result angle_close c.skip_spaces-end.ensures c.byte.ensures c.if-byte-eq62.false in
    rw (t, second_bit)
