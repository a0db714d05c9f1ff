-- `desk_registers::register_at`: the machine's table, and behind it the devices'.
use native.Mathlib.Omega.{arith}
use mathlib.Core.Path.{◌≡◌, sym, ap, ◌∙◌}
use Prim.Native.Nat.{ℕ, ◌+◌, ◌-◌}
use lib.ListN.{get_or, get_or-append}
use lib.Seq.{get_or-append-add}
use Rattle.devices.specs.Devices.{device_registers}
use Rattle.machine_state.specs.Registers.{machine_registers}
use Rattle.characters.specs.Table.{nameless}
use Rattle.desk_registers.specs.Registers.{desk_registers}
use Rattle.desk_registers.proofs.register_at.Goals as goal

pub returns-then-place-lt-MACHINE_REGISTERS : goal.returns-then-place-lt-MACHINE_REGISTERS
returns-then-place-lt-MACHINE_REGISTERS c = c.register_at.ensures ∙ sym (get_or-append machine_registers device_registers nameless c.args.place c.if-place-lt-MACHINE_REGISTERS.true)

pub returns-else-place-lt-MACHINE_REGISTERS : goal.returns-else-place-lt-MACHINE_REGISTERS
returns-else-place-lt-MACHINE_REGISTERS c = let past : c.args.place ≡ 6 + (c.args.place - 6) = omega (arith, c.if-place-lt-MACHINE_REGISTERS.false) in
    c.register_at-else-place-lt-MACHINE_REGISTERS.ensures
    ∙ sym (ap (λ (k : ℕ). get_or desk_registers k nameless) past ∙ get_or-append-add machine_registers device_registers (c.args.place - 6) nameless)
