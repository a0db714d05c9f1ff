-- `emulator::finished`: the run starts from the caller's registers and ends narrow, so that they can be handed back.
use mathlib.Core.Path.{sym, ap, subst}
use Rattle.machine_state.specs.declared.Machine.{Machine}
use Rattle.machine_state.specs.State.{State, start, Good}
use Rattle.runs.specs.Run.{Ended}
use Rattle.machine_state.proofs.Keeps.{good_narrow}
use Rattle.machine_run.proofs.Runs.{run_good}
use Rattle.emulator.proofs.finished.Goals as goal

pub narrowed-requires : goal.narrowed-requires
narrowed-requires c = let good = subst (λ (m : Machine). Good (start m c.args.memory.now)) (sym c.from.ensures) c.requires in
    good_narrow (subst Good (sym (ap (λ (r : Ended State). r.left) c.run-end.ensures)) (run_good c.args.budget good))
