-- `desk_day_listing::run::put_step`: a step is the machine's.
use Rattle.machine_run.specs.Stretch.{advance}
use Rattle.desk_day_listing.proofs.run.put_step.Goals as goal

pub returns-clause-steps : goal.returns-clause-steps
unfolding advance
returns-clause-steps c = c.step-q.ensures
