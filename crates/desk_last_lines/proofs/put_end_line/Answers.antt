-- `desk_last_lines::put_end_line`: the word goes by RUN, then by the place.
use Rattle.std.proofs.Common.{refl, append_assoc}
use borrow.Author.Tests.{eq-eqb, ne_eqb}
use Rattle.desk_last_lines.proofs.Sizes.{end_line_lem}
use Rattle.desk_last_lines.proofs.put_end_line.Goals as goal

pub returns-then-run-eq0 : goal.returns-then-run-eq0
returns-then-run-eq0 g c =
    simp (append_assoc, end_line_lem, eq-eqb _ _ c.if-run-eq0.true, c.put_text-then-run-eq0.ensures, c.put_decimal.ensures, c.put_text.ensures) refl

pub returns-then-place : goal.returns-then-place
returns-then-place g c =
    simp (append_assoc, end_line_lem, ne_eqb _ _ c.if-run-eq0.false, c.if-place.true, c.put_text-then-place.ensures, c.put_decimal.ensures, c.put_text.ensures) refl

pub returns-else-place : goal.returns-else-place
returns-else-place g c =
    simp (append_assoc, end_line_lem, ne_eqb _ _ c.if-run-eq0.false, c.if-place.false, c.put_text-else-place.ensures, c.put_decimal.ensures, c.put_text.ensures) refl
