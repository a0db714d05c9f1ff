-- `desk_exchange::on_page::put_printed_bytes`: the bytes read have been written.
use Rattle.std.proofs.Common.{◌≡◌, ◌+◌, ◌*◌, ◌≤◌, length, take, true}
use Rattle.page.specs.Written.{Written}
use Rattle.desk_exchange.specs.Exchange.{octets_from}
use Rattle.desk_exchange.specs.Sizes.{octet_bytes}
use Rattle.desk_exchange.proofs.on_page.put_printed_bytes.Given as goal

abbrev pub invariant-loop-k : goal.invariant-loop-k
invariant-loop-k l =
    (l.end ≤ l.at + octet_bytes * l.k)
    × (length l.page ≡ length l.initial.page)
    × Written (octets_from true (take l.k l.printed)) l.initial.page l.at l.page l.end
