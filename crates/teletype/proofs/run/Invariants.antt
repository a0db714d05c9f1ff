-- `teletype::run`: after each turn the keys are within the buffer, and no more steps are left than at first.
use Rattle.std.proofs.Common.{◌+◌, ◌≤◌}
use Rattle.desk_teletype.specs.Keys.{key_bytes}
use Rattle.teletype.proofs.run.Given as goal

abbrev pub invariant-loop : goal.invariant-loop
invariant-loop g l = (l.so_far.keys.at + l.so_far.keys.left ≤ key_bytes) × (l.so_far.sitting.left ≤ l.budget)
