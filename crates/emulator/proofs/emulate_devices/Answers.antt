-- `emulator::emulate_devices`: the checks' verdict is the case that the definition goes by.
use mathlib.Core.Path.{sym, ◌∙◌}
use Rattle.emulator.specs.Emulate.{emulate_devices}
use Rattle.emulator.proofs.Starts.{checked_fit}
use Rattle.emulator.proofs.emulate_devices.Goals as goal

pub finished_devices-requires : goal.finished_devices-requires
finished_devices-requires c = let fit = checked_fit _ _ _ c.args.budget (sym c.checked_devices.ensures ∙ c.in-Ok.is) in
    record { machine_good = fit.0; devices_fit = fit.1 }

pub returns-in-Err : goal.returns-in-Err
unfolding emulate_devices
returns-in-Err c = rw (sym c.checked_devices.ensures ∙ c.in-Err.is, emulate_devices)

pub returns-in-Ok : goal.returns-in-Ok
unfolding emulate_devices
returns-in-Ok c = rw (sym c.checked_devices.ensures ∙ c.in-Ok.is, emulate_devices) c.finished_devices.ensures
