-- `desk_day_listing::run::put_run`: the heading, and the run listed as far as the loop has come.
use Rattle.std.proofs.Common.{rules, arith, refl, ap, ◌≡◌, ◌≤◌, ◌⊎◌, inl, inr, length}
use borrow.Author.Tests.{ne_eqb}
use mathlib.Core.Bool.{not}
use Rattle.state.specs.Refusals.{reason_of}
use Rattle.desk_day_listing.specs.Listing.{budget, heading}
use Rattle.desk_day_listing.specs.Stepped.{page_bytes}
use Rattle.desk_last_lines.specs.LastLines.{end_line}
use Rattle.page.proofs.Writing.{page_of, drafted_size}
use Rattle.page.proofs.Numbers.{decimal_length}
use Rattle.desk_last_lines.proofs.Sizes.{end_size}
use Rattle.desk_day_listing.proofs.Rest.{listed_more, listed_all, run_listing_lem}
use Rattle.desk_day_listing.proofs.run.put_run.Goals as goal
use Rattle.desk_day_listing.proofs.run.put_run.Goals.{else-loop-done-test, then-loop-done-test+then-p-eq0}

pub loop-done-preserved : goal.loop-done-preserved
loop-done-preserved c =
    listed_more c.loop-done.invariant c.loop-done-test.true (ap not (ne_eqb _ _ c.if-p-eq0.false)) c.put_step-p.ensures.steps c.put_step-p.ensures.line

pub put_end_line-requires : goal.put_end_line-requires
put_end_line-requires c =
    let short = decimal_length 1 c.loop-done.done (omega (arith, c.loop-done.invariant.count)) in
    let first = drafted_size c.new-draft.result heading c.put_text.ensures in
    (search rules, omega (arith, first, ap length c.new-draft.ensures, short, c.loop-done.invariant.room, c.loop-done.invariant.count))

pub copy_to-requires : goal.copy_to-requires
copy_to-requires c =
    let short = decimal_length 1 c.loop-done.done (omega (arith, c.loop-done.invariant.count)) in
    let first = drafted_size c.new-draft.result heading c.put_text.ensures in
    let last = drafted_size c.loop-done.draft (end_line c.loop-done.done (reason_of c.loop-done.p.run)) c.put_end_line.ensures in
    let size = end_size c.loop-done.done (reason_of c.loop-done.p.run) in
    let full : length c.args.page.now ≡ page_bytes = search rules in
    (search rules, omega (arith, first, last, ap length c.new-draft.ensures, short, c.loop-done.invariant.room, c.loop-done.invariant.count))

pub returns : goal.returns
returns c =
    let how : (budget ≤ c.loop-done.done) ⊎ (c.loop-done.p.run ≡ 0) = elim c.loop-done-test.branch [
      | else-loop-done-test w ↦ inl w.loop-done-test.false
      | then-loop-done-test+then-p-eq0 w ↦ inr w.if-p-eq0.true
    ] in
    let lines = listed_all c.loop-done.invariant how c.put_end_line.ensures in
    page_of _ c.copy_to.ensures (simp (run_listing_lem, lines, c.put_text.ensures, c.new-draft.ensures) refl)
