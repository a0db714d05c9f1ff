-- `text_description::reader::read_lines`: line by line, with the rows behind what was read so far.
use mathlib.Core.Path.{sym, ap, subst, ◌∙◌}
use mathlib.Core.List.{List}
use Prim.Native.Nat.{ℕ}
use native.Mathlib.Omega.{arith}
use Rattle.std.proofs.lemmas.Result.{err_from_is_err_and}
use Rattle.text_fields.specs.Rests.{Rest}
use Rattle.text_description.proofs.Texts.{so_far_start, so_far_refused, so_far_next, so_far_last, so_far_turned_down, tells_refused}
use Rattle.text_description.proofs.reader.read_lines.Goals as goal

pub loop-line-init : goal.loop-line-init
loop-line-init c =
    let rest = ap (λ (t : _). t.rest.now) c.into_iter-line-iterator.ensures.into_iter_gives ∙ c.lines_of-line-items.ensures ∙ c.part_after.ensures in
    so_far_start c.args.text.now _ _ _ _ c.start-q.ensures rest

pub read_line-requires-clause-is_rest : goal.read_line-requires-clause-is_rest
read_line-requires-clause-is_rest c = subst (λ (l : List ℕ). Rest c.args.text.now l) (sym c.in-Some.ensures.steps.rest_is) c.loop-line.invariant.left

pub read_line-requires-clause-stands : goal.read_line-requires-clause-stands
read_line-requires-clause-stands c = c.in-Some.ensures.steps.stands

pub overflow_add-n : goal.overflow_add-n
overflow_add-n c = omega (arith, c.loop-line.invariant.count, c.requires)

pub loop-line-preserved : goal.loop-line-preserved
loop-line-preserved c = let y = c.in-Some.ensures.steps in
    so_far_next c.args.text.now _ _ _ _ _ _ _ c.loop-line.invariant _ y.some (rw (c.in-Ok.is, y.rest_is) at c.read_line.ensures) _ y.left_is

pub returns-in-Err : goal.returns-in-Err
returns-in-Err c = let y = c.in-Some.ensures.steps in
    tells_refused c.args.text.now _ _ _ _ _ _ _
    (so_far_refused c.args.text.now _ _ _ _ _ _ _ c.loop-line.invariant c.in-Err.fault y.some (rw (c.in-Err.is, y.rest_is) at c.read_line.ensures))

pub returns-in_err-verdict_of : goal.returns-in_err-verdict_of
returns-in_err-verdict_of c = let e = err_from_is_err_and c.from_residual.result c.from_residual.ensures.1 in
    rw (e.1, e.2)
    (tells_refused c.args.text.now _ _ _ _ _ _ _
    (so_far_turned_down c.args.text.now _ _ _ _ _ _ _ c.loop-line.invariant _ c.in-None.ensures.steps.0 (rw c.in_err-verdict_of.was at c.verdict_of.ensures)))

pub returns : goal.returns
returns c = so_far_last c.args.text.now _ _ _ _ _ _ _ c.loop-line.invariant c.in-None.ensures.steps.0 (rw c.in_ok-verdict_of.was at c.verdict_of.ensures)
