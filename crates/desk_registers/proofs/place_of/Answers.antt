-- `desk_registers::place_of`: among the machine's registers, or behind them among the devices'.
use Rattle.std.proofs.Common.{rules}
use Rattle.characters.proofs.Searches.{found_in_first, found_in_second, found_in_none}
use Rattle.devices.specs.Devices.{device_registers}
use Rattle.machine_state.specs.Registers.{machine_registers}
use Rattle.desk_registers.proofs.place_of.Goals as goal

pub returns-in-Some : goal.returns-in-Some
returns-in-Some c = search (rules, found_in_first c.args.name.now device_registers machine_registers)

pub returns-in_err-place : goal.returns-in_err-place
returns-in_err-place c = search (rules, found_in_none c.args.name.now device_registers machine_registers)

pub returns : goal.returns
returns c = search (rules, found_in_second c.args.name.now device_registers machine_registers)
