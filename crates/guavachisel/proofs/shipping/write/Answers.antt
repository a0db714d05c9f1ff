-- `guavachisel::shipping::write` writes a text where it fits.
use Rattle.guavachisel.proofs.Rooms.{fits, too_long}
use Rattle.guavachisel.proofs.shipping.write.Goals as goal

pub returns-then-text-room : goal.returns-then-text-room
returns-then-text-room c = rw c.copy_from_slice.ensures.after (fits c.args.text.now c.args.room.now c.if-text-room.true)

pub returns-else-text-room : goal.returns-else-text-room
returns-else-text-room c = too_long c.args.text.now c.args.room.now c.if-text-room.false
