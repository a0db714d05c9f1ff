-- `desk_day_listing::list`: the whole text is one chunk.
use borrow.Author.Rules.{rules}
use mathlib.Core.Path.{ap, ◌∙◌}
use mathlib.Core.List.{[]}
use Rattle.desk_day_listing.specs.Scanned.{scan_listing}
use Rattle.desk_day_listing.proofs.ByText.{scan_listing_lem}
use Rattle.desk_day_listing.proofs.list.Goals as goal

pub returns : goal.returns
returns c = let read = c.scanned-t.ensures.goes_on [] c.begin-s.ensures in
    rw (← (ap scan_listing read ∙ scan_listing_lem c.args.text.now (search rules))) c.listing.ensures
