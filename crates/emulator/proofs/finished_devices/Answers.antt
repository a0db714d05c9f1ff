-- `emulator::finished_devices`: the run starts from the caller's registers and ends narrow, so that they can be handed back.
use mathlib.Core.Path.{sym, subst}
use native.Mathlib.Omega.{arith}
use Rattle.machine_state.specs.declared.Machine.{Machine}
use Rattle.machine_state.specs.State.{start, Good}
use Rattle.emulator.proofs.Ends.{end_narrow}
use Rattle.emulator.proofs.finished_devices.Goals as goal

pub narrowed-requires : goal.narrowed-requires
narrowed-requires c = end_narrow c.run_devices-end.ensures (subst (λ (m : Machine). Good (start m c.args.memory.now)) (sym c.from.ensures) c.requires.machine_good)
    c.requires.devices_fit (record { each = λ k. omega (arith, c.shared_slice_known-1.given k) })
