-- The machines of which a description is shipped, and the registers of each. Texts, rows and the claim go by the variant.
-- Assumes nothing.
use Rattle.std.specs.Prelude.{Bool, true, false, List, [], ◌++◌, ℕ}
use Rattle.characters.specs.Named.{Named}
use Rattle.devices.specs.declared.Devices.{Devices}
use Rattle.devices.specs.Devices.{device_registers, device_values}
use Rattle.machine_state.specs.declared.Machine.{Machine}
use Rattle.machine_state.specs.Registers.{machine_registers, values}

pub data Variant : Type 0 where
  -- document 01's machine: six registers and 4,096 words
  plain : Variant
  -- with keyboard and teleprinter: document 02, Two
  devices : Variant

-- the variant with devices, or without
abbrev pub variant_of : Bool → Variant
variant_of true = devices
variant_of false = plain

-- the machine registers that a variant has besides the six, and their values: "the emulator has them, after the six in this order, only with devices"
abbrev pub further_registers : Variant → List Named
further_registers plain = []
further_registers devices = device_registers

abbrev pub further_values : Variant → Devices → List ℕ
further_values plain c = []
further_values devices c = device_values c

-- all of them: "in this order, which begins the shipped description too"
abbrev pub registers_of : Variant → List Named
registers_of v = machine_registers ++ further_registers v

abbrev pub values_of : Variant → Machine → Devices → List ℕ
values_of v m c = values m ++ further_values v c
