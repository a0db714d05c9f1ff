-- `text_code::compounds::closed_part`: by the byte that stands next.
use mathlib.Core.Path.{sym, ◌∙◌}
use Prim.Native.Nat.{◌+◌}
use native.Mathlib.Omega.{arith}
use borrow.Author.Tests.{eq-eqb, ne_eqb}
use Rattle.text_tokens.specs.Signs.{square_close}
use Rattle.laws.proofs.Lists.{present}
use Rattle.text_tokens.proofs.Tokens.{at_mark, off_mark}
use Rattle.text_code.proofs.Making.{left_open, square, round}
use Rattle.text_code.proofs.compounds.closed_part.Goals as goal

pub returns-then-byte-close : goal.returns-then-byte-close
returns-then-byte-close c = left_open c.args.s.now c.args.close c.args.inner.end c.args.inner.width c.args.code.now (c.args.inner.end.place + 1) (c.args.inner.end.words + 1) (c.args.inner.end.pieces + 1) c.args.code.now
    (off_mark c.args.s.now c.args.inner.end.place c.skip_spaces-end.result c.byte.result c.args.close c.skip_spaces-end.ensures c.byte.ensures c.if-byte-close.true)

pub overflow_add-end : goal.overflow_add-end
overflow_add-end c = let same = sym c.byte.ensures ∙ c.if-byte-close.false in
    omega (arith, present c.args.s.now c.skip_spaces-end.result c.args.close same c.requires.a_byte)

pub returns-then-close-eq93 : goal.returns-then-close-eq93
returns-then-close-eq93 c = rw (c.with_word.ensures, c.emit.ensures, c.skip_spaces-end.ensures)
    (square c.args.s.now c.args.close c.args.inner.end c.args.inner.width c.args.code.now
    (at_mark c.args.s.now c.args.inner.end.place c.skip_spaces-end.result c.byte.result c.args.close c.skip_spaces-end.ensures c.byte.ensures c.if-byte-close.false)
    (eq-eqb c.args.close square_close c.if-close-eq93.true)
    (rw c.skip_spaces-end.ensures at (present c.args.s.now c.skip_spaces-end.result c.args.close (sym c.byte.ensures ∙ c.if-byte-close.false) c.requires.a_byte)))

pub returns-else-close-eq93 : goal.returns-else-close-eq93
returns-else-close-eq93 c = rw (c.at.ensures, c.skip_spaces-end.ensures)
    (round c.args.s.now c.args.close c.args.inner.end c.args.inner.width c.args.code.now
    (at_mark c.args.s.now c.args.inner.end.place c.skip_spaces-end.result c.byte.result c.args.close c.skip_spaces-end.ensures c.byte.ensures c.if-byte-close.false)
    (ne_eqb c.args.close square_close c.if-close-eq93.false)
    (rw c.skip_spaces-end.ensures at (present c.args.s.now c.skip_spaces-end.result c.args.close (sym c.byte.ensures ∙ c.if-byte-close.false) c.requires.a_byte))
    c.requires.narrow)
