-- The registers that a question may give and an answer tells: the machine's, and "after the six in this order" the devices'.
-- Assumes nothing.
use Rattle.std.specs.Prelude.{List, ◌++◌, ℕ}
use Rattle.characters.specs.Named.{Named}
use Rattle.devices.specs.Devices.{device_registers, device_widths}
use Rattle.machine_state.specs.Registers.{machine_registers, widths}

abbrev pub desk_registers : List Named
desk_registers = machine_registers ++ device_registers

-- their widths
abbrev pub desk_widths : List ℕ
desk_widths = widths ++ device_widths
