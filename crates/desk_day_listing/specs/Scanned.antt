-- The listing of what a scanner keeps when the input ends. A reader need not believe these definitions: the law `scan_listing_lem` says that after a text they
-- come to the text's day listing.
-- Assumes nothing.
use Rattle.std.specs.Prelude.{List, [], ℕ, Ok, Err}
use Rattle.state.specs.Checks.{check_memory}
use Rattle.state.specs.Refusals.{Verdict}
use Rattle.desk_image.specs.Scan.{Scan, unfit_line}
use Rattle.desk_last_lines.specs.LastLines.{or_refused}
use Rattle.desk_day_listing.specs.Listing.{run_listing}

-- "Memory that meets neither 11 nor 12 is acceptable": by the check's verdict. No text leaves another memory; it has no run, and nothing is listed.
abbrev pub checked_listing : Verdict → List ℕ → List ℕ
checked_listing (Ok fit) memory = run_listing memory
checked_listing (Err why) memory = []

unfoldable pub scan_listing : Scan (List ℕ) → List ℕ
scan_listing s = or_refused (unfit_line s) (checked_listing (check_memory s.made) s.made)
