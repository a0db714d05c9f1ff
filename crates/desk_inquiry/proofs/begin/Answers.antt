-- `desk_inquiry::begin`: what is ready where nothing is asked.
use Rattle.desk_image.specs.Pass.{pass}
use Rattle.desk_inquiry.specs.Input.{ready}
use Rattle.desk_inquiry.proofs.begin.Goals as goal

pub returns : goal.returns
unfolding pass ready
returns c = c.begin.ensures
