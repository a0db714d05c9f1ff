-- `desk_mnemonics::machine_names`: the table is the definition's.
use Rattle.std.proofs.Common.{refl}
use Rattle.desk_mnemonics.specs.Mnemonics.{names, device_names}
use Rattle.desk_mnemonics.proofs.machine_names.Goals as goal

pub returns-then-devices : goal.returns-then-devices
unfolding names device_names
returns-then-devices c = rw c.if-devices.true refl

pub returns-else-devices : goal.returns-else-devices
unfolding names device_names
returns-else-devices c = rw c.if-devices.false refl
