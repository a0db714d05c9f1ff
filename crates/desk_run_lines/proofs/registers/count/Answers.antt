-- `desk_run_lines::registers::count`: the registers are counted.
use mathlib.Core.Path.{sym, ap}
use mathlib.Core.Bool.{Bool}
use lib.ListN.{length}
use Rattle.shipped_rows.specs.Variant.{registers_of}
use Rattle.desk_run_lines.specs.Registers.{variant_of}
use Rattle.desk_run_lines.proofs.registers.count.Goals as goal

pub returns-then-devices : goal.returns-then-devices
returns-then-devices c = sym (ap (λ (t : Bool). length (registers_of (variant_of t))) c.if-devices.true)

pub returns-else-devices : goal.returns-else-devices
returns-else-devices c = sym (ap (λ (t : Bool). length (registers_of (variant_of t))) c.if-devices.false)
