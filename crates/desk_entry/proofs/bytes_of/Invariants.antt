-- `desk_entry::bytes_of`: the bytes passed stand at the front.
use Rattle.std.proofs.Common.{◌≡◌, length, take}
use Rattle.desk_entry.specs.Octets.{input_bytes, octets}
use Rattle.desk_entry.proofs.bytes_of.Given as goal

abbrev pub invariant-loop-k : goal.invariant-loop-k
invariant-loop-k l = (length l.bytes ≡ input_bytes) × (take l.k l.bytes ≡ octets l.value l.k)
