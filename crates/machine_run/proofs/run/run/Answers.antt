-- `machine_run::run::run`: a stretch without devices.
use mathlib.Core.Path.{◌∙◌}
use Rattle.machine_state.specs.Processor.{at}
use Rattle.machine_run.proofs.Ready.{plain_stretch}
use Rattle.machine_run.proofs.run.run.Goals as goal

pub returns : goal.returns
returns c = c.stretch.ensures ∙ plain_stretch c.args.budget (at c.args.p c.args.memory.now)
