-- `desk_entry::are_octets`: those passed are bytes, or not.
use Rattle.std.proofs.Common.{◌≡◌}
use Rattle.desk_entry.specs.Octets.{are_octets}
use Rattle.desk_entry.proofs.are_octets.Given as goal

abbrev pub invariant-loop-k : goal.invariant-loop-k
invariant-loop-k l = l.fit ≡ are_octets l.value l.k
