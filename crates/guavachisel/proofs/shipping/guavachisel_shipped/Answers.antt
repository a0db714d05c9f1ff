-- `guavachisel::shipping::guavachisel_shipped` hands over the text of a number that has one.
use Rattle.std.specs.Prelude.{◌≡◌, []}
use Rattle.std.proofs.lemmas.Option.{MatchOption-at_none, MatchOption-at_some}
use Rattle.guavachisel.specs.Shipping.{shipped_of}
use Rattle.guavachisel.proofs.Rooms.{described, undescribed}
use Rattle.guavachisel.proofs.shipping.guavachisel_shipped.Goals as goal

pub returns-in-Some : goal.returns-in-Some
returns-in-Some c = described c.args.which c.args.text.now _ _ _ (MatchOption-at_some (shipped_of c.args.which ≡ []) (λ d. d.now ≡ shipped_of c.args.which) _ c.in-Some.is c.description_of.ensures)
    c.write.ensures (rw c.answered.ensures at c.into.ensures)

pub returns-in-None : goal.returns-in-None
returns-in-None c = undescribed c.args.which c.args.text.now _ (MatchOption-at_none (shipped_of c.args.which ≡ []) (λ d. d.now ≡ shipped_of c.args.which) c.in-None.is c.description_of.ensures)
    (rw c.answered-in-None.ensures at c.into-in-None.ensures)
