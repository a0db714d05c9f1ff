-- `guavachisel::device_emulation::guavachisel_emulate_devices` hands over each case of the emulator's answer.
use Rattle.std.proofs.Common.{rules}
use Rattle.guavachisel.proofs.device_emulation.guavachisel_emulate_devices.Goals.{in-Ok, in-Err}
use Rattle.guavachisel.proofs.device_emulation.guavachisel_emulate_devices.Goals as goal

pub returns : goal.returns
returns c = elim c.match-answer.branch [
  | in-Ok w ↦ search rules
  | in-Err w ↦ search rules
]
