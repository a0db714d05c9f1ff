-- `desk_inquiry::Asked::enter_entry`: a register in its place.
use Rattle.desk_inquiry.proofs.Asked.enter_entry.Goals as goal

pub returns-in-Register : goal.returns-in-Register
returns-in-Register c = rw c.in-Register.is (c.set_register.ensures _ _)
