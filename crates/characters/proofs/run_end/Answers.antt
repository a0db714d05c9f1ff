-- `characters::run_end`: the bytes that the chain counts are the run.
use Rattle.std.proofs.Common.{rules}
use Rattle.characters.specs.Characters.{run_end}
use Rattle.characters.proofs.Runs.{run_length}
use Rattle.characters.proofs.run_end.Goals as goal

pub returns : goal.returns
unfolding run_end
returns c = search (rules, run_length)
