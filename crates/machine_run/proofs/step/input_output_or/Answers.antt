-- `machine_run::step::input_output_or`: a device's word is given back, every other is executed.
use Rattle.machine_run.specs.Stretch.{input_output_or}
use Rattle.machine_run.proofs.step.input_output_or.Goals as goal

pub returns-then-devices-is_device : goal.returns-then-devices-is_device
unfolding input_output_or
returns-then-devices-is_device c = simp (← c.is_device.ensures, c.if-devices-is_device.true)

pub returns : goal.returns
unfolding input_output_or
returns c = simp (← c.is_device.ensures, c.if-devices-is_device.false) c.input_output.ensures
