-- `state::first_too_wide`: what is left to scan has the answer of the whole.
use borrow.Author.Tests.{not-true, not-false}
use borrow.Author.Rules.{rules}
use mathlib.Core.Path.{sym, ◌∙◌}
use Rattle.state.proofs.Scan.{scan_end, scan_stop, scan_on}
use Rattle.state.proofs.first_too_wide.Goals as goal

pub returns-then-not-is_fit : goal.returns-then-not-is_fit
returns-then-not-is_fit c = let stops = sym c.is_fit.ensures ∙ not-true _ c.if-not-is_fit.true-raw in
    sym (c.loop-place.invariant.1 ∙ scan_stop _ _ c.loop-place.place c.loop-place-test.true stops)

pub loop-place-preserved : goal.loop-place-preserved
loop-place-preserved c = let goes = sym c.is_fit.ensures ∙ not-false _ c.if-not-is_fit.false-raw in
    (search rules, c.loop-place.invariant.1 ∙ scan_on _ _ c.loop-place.place c.loop-place-test.true goes)

pub returns : goal.returns
returns c = sym (c.loop-place.invariant.1 ∙ scan_end _ _ c.loop-place.place c.loop-place-test.false)
