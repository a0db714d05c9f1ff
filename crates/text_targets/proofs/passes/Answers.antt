-- `text_targets::passes`: line by line.
use mathlib.Core.Path.{sym, ap, ◌∙◌}
use mathlib.Core.List.{List}
use Prim.Native.Nat.{ℕ, ◌+◌}
use native.Mathlib.Omega.{arith}
use lib.ListN.{length}
use Rattle.characters.specs.Ascii.{line_feed}
use Rattle.text_fields.specs.Fields.{Line, lines}
use Rattle.text_fields.proofs.Lines.{after_shorter}
use Rattle.text_targets.specs.Targets.{is_at, is_row, further, passes}
use Rattle.text_targets.proofs.Counting.{from_none, arrived, past_row, past_other, nowhere}
use Rattle.text_targets.proofs.passes.Goals as goal

pub loop-line-init : goal.loop-line-init
loop-line-init c =
    let rest = ap (λ (t : _). t.rest.now) c.into_iter-line-iterator.ensures.into_iter_gives ∙ c.lines_of-line-items.ensures in
    (from_none _ ∙ ap (λ (s : List ℕ). further 0 (passes c.args.label.now (lines s))) (sym rest), omega (arith, ap length rest))

pub returns-then-is_at : goal.returns-then-is_at
returns-then-is_at c = let y = c.in-Some.ensures.steps in
    let at = sym (ap (λ (l : Line). is_at c.args.label.now l.bytes) y.line_is) ∙ sym c.is_at.ensures ∙ c.if-is_at.true in
    sym (c.loop-line.invariant.0 ∙ arrived c.args.label.now c.loop-line.line-iterator.rest.now c.loop-line.n y.some at)

pub overflow_add-n : goal.overflow_add-n
overflow_add-n c = omega (arith, c.loop-line.invariant.1, c.in-Some.ensures.steps.some, c.requires)

pub loop-line-preserved-then-is_row : goal.loop-line-preserved-then-is_row
loop-line-preserved-then-is_row c = let y = c.in-Some.ensures.steps in
    let at = sym (ap (λ (l : Line). is_at c.args.label.now l.bytes) y.line_is) ∙ sym c.is_at.ensures ∙ c.if-is_at.false in
    let row = sym (ap (λ (l : Line). is_row l.bytes) y.line_is) ∙ sym c.is_row.ensures ∙ c.if-is_row.true in (
      c.loop-line.invariant.0 ∙ past_row c.args.label.now c.loop-line.line-iterator.rest.now c.loop-line.n y.some at row
          ∙ ap (λ (s : List ℕ). further (c.loop-line.n + 1) (passes c.args.label.now (lines s))) (sym y.left_is),
      omega (arith, c.loop-line.invariant.1, after_shorter line_feed c.loop-line.line-iterator.rest.now _ y.some y.left_is),
    )

pub loop-line-preserved : goal.loop-line-preserved
loop-line-preserved c = let y = c.in-Some.ensures.steps in
    let at = sym (ap (λ (l : Line). is_at c.args.label.now l.bytes) y.line_is) ∙ sym c.is_at.ensures ∙ c.if-is_at.false in
    let other = sym (ap (λ (l : Line). is_row l.bytes) y.line_is) ∙ sym c.is_row.ensures ∙ c.if-is_row.false in (
      c.loop-line.invariant.0 ∙ past_other c.args.label.now c.loop-line.line-iterator.rest.now c.loop-line.n y.some at other
          ∙ ap (λ (s : List ℕ). further c.loop-line.n (passes c.args.label.now (lines s))) (sym y.left_is),
      omega (arith, c.loop-line.invariant.1, after_shorter line_feed c.loop-line.line-iterator.rest.now _ y.some y.left_is),
    )

pub returns : goal.returns
returns c = sym (c.loop-line.invariant.0 ∙ nowhere c.args.label.now c.loop-line.line-iterator.rest.now c.loop-line.n c.in-None.ensures.steps.0)
