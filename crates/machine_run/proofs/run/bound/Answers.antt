-- `machine_run::run::bound`: RUN is 0 or 1.
use native.Mathlib.Omega.{arith}
use Rattle.machine_run.proofs.Runs.{bound_is, bound_le}
use Rattle.machine_run.proofs.run.bound.Goals as goal

pub overflow_mul-result : goal.overflow_mul-result
overflow_mul-result c = let h = bound_le c.args.number c.args.run c.requires in omega (arith, h)

pub returns : goal.returns
returns c = bound_is c.args.number c.args.run c.requires
