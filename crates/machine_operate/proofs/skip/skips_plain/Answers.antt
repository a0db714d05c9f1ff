-- `machine_operate::skip::skips_plain` reads like its definition.
use Rattle.machine_state.proofs.Lac.{ac_is}
use Rattle.machine_operate.proofs.skip.skips_plain.Goals as goal

pub returns : goal.returns
returns c = simp ac_is
