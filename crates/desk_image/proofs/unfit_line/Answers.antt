-- `desk_image::unfit_line`: whatever the memory.
use Rattle.std.proofs.Common.{[]}
use Rattle.desk_image.proofs.unfit_line.Goals as goal

pub returns : goal.returns
returns c = c.unfit_line.ensures []
