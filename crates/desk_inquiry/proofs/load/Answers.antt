-- `desk_inquiry::load`: nothing is set past the end.
use Rattle.std.proofs.Common.{sym, refl}
use lib.Seq.{set_out}
use Rattle.desk_inquiry.proofs.load.Goals as goal

pub returns-then-address-memory : goal.returns-then-address-memory
returns-then-address-memory c = refl

pub returns-else-address-memory : goal.returns-else-address-memory
returns-else-address-memory c = sym (set_out _ _ _ c.if-address-memory.false)
