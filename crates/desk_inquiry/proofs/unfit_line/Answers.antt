-- `desk_inquiry::unfit_line`: whatever the memory.
use Rattle.std.proofs.Common.{[]}
use Rattle.desk_inquiry.proofs.unfit_line.Goals as goal

pub returns : goal.returns
returns c = c.unfit_line.ensures []
