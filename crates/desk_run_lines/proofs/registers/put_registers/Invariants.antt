-- `desk_run_lines::registers::put_registers`: the lines of the registers read have been written.
use Rattle.std.proofs.Common.{◌≡◌, ◌++◌, take}
use Rattle.desk_registers.specs.Registers.{desk_registers}
use Rattle.desk_run_lines.specs.Registers.{register_lines}
use Rattle.desk_run_lines.proofs.registers.put_registers.Given as goal

abbrev pub invariant-loop-k : goal.invariant-loop-k
invariant-loop-k l = l.draft ≡ l.initial.draft ++ register_lines (take l.k desk_registers) (take l.k l.all)
