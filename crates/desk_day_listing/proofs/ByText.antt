-- The listing of what a scanner keeps: the ways that it goes, and that after a text it is the text's day listing.
-- Assumes nothing.
use mathlib.Core.Path.{◌≡◌, refl, ap, ◌∙◌}
use mathlib.Core.List.{List}
use Prim.Native.Nat.{ℕ}
use Rattle.state.specs.Checks.{check_memory}
use Rattle.state.specs.Refusals.{Verdict}
use Rattle.std.specs.Prelude.{Ok}
use Rattle.state.proofs.Accepted.{acceptable_memory}
use Rattle.desk_last_lines.specs.LastLines.{refused_line, or_refused}
use Rattle.std.specs.Prelude.{Option, Some, None}
use Rattle.desk_last_lines.proofs.Refused.{same_unrefused}
use Rattle.desk_day_listing.specs.Listing.{run_listing, day_listing}
use Rattle.desk_day_listing.specs.Scanned.{checked_listing, scan_listing}
use Rattle.desk_image.specs.Input.{loaded}
use Rattle.desk_image.specs.Pass.{Countable}
use Rattle.desk_image.specs.Scan.{Scan, unfit_line, words, scan_of}
use Rattle.desk_image.proofs.ByLines.{by_lines}
use Rattle.desk_image.proofs.WordLine.{bounded_words}
use Rattle.desk_image.proofs.Sound.{reached_acceptable}

-- by its first unfit line, and where there is none
module _ (s : Scan (List ℕ)) where
  abbrev listed : Option ℕ → List ℕ
  listed unfit = or_refused unfit (checked_listing (check_memory s.made) s.made)

  pub listed_refused : (n : ℕ) → unfit_line s ≡ Some n → scan_listing s ≡ refused_line n
  unfolding scan_listing
  listed_refused n u = ap listed u

  pub listed_checked : unfit_line s ≡ None → (v : Verdict) → check_memory s.made ≡ v → scan_listing s ≡ checked_listing v s.made
  unfolding scan_listing
  listed_checked u v e = ap listed u ∙ ap (λ (w : Verdict). checked_listing w s.made) e

-- after a text: refused by its first unfit line, else the run of the memory that it loads
pub scan_listing_lem : (text : List ℕ) → Countable text → scan_listing (scan_of words text) ≡ day_listing text
unfolding day_listing scan_listing
scan_listing_lem text h =
    let s = scan_of words text in
    let keeps = by_lines words bounded_words text h in
    let fit : check_memory s.made ≡ Ok tt = acceptable_memory s.made (reached_acceptable s (record { text = text; is = refl })) in
    ap (λ (unfit : Option ℕ). or_refused unfit (checked_listing (check_memory s.made) s.made)) keeps.unfit
    ∙ same_unrefused _ _ (run_listing (loaded text)) (λ z. ap (λ (v : Verdict). checked_listing v s.made) fit ∙ ap run_listing (keeps.makes z))
