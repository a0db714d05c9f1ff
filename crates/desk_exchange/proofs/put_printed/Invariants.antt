-- `desk_exchange::put_printed`: the bytes read have been written.
use Rattle.std.proofs.Common.{◌≡◌, ◌+◌, ◌*◌, ◌≤◌, ◌++◌, length, take, true}
use Rattle.desk_exchange.specs.Exchange.{octets_from}
use Rattle.desk_exchange.specs.Sizes.{octet_bytes}
use Rattle.desk_exchange.proofs.put_printed.Given as goal

abbrev pub invariant-loop-k : goal.invariant-loop-k
invariant-loop-k g l =
    (length l.draft ≤ length l.initial.draft + octet_bytes * l.k) × (l.draft ≡ l.initial.draft ++ octets_from true (take l.k l.printed))
