-- `desk_exchange::put_printed`: the bytes read have been written.
use Rattle.std.proofs.Common.{arith, refl, sym, append-nil, append_assoc, take_all}
use lib.Dec.{eqb}
use lib.ListN.{get_or}
use Rattle.page.proofs.Writing.{drafted_more, drafted_size}
use Rattle.desk_exchange.specs.Exchange.{octet, octets_from}
use Rattle.desk_exchange.proofs.Printed.{octets_more, octet_size, printed_lem}
use Rattle.desk_exchange.proofs.put_printed.Goals as goal

pub loop-k-init : goal.loop-k-init
unfolding octets_from
loop-k-init g c = (omega arith, sym (append-nil _))

pub loop-k-preserved : goal.loop-k-preserved
loop-k-preserved g c =
    let first = eqb c.loop-k.k 0 in
    let b = get_or c.args.printed.now c.loop-k.k 0 in (
      omega (arith, c.loop-k.invariant.0, drafted_size c.loop-k.draft (octet first b) c.put_octet.ensures, octet_size first b),
      drafted_more _ _ _ (octets_more c.args.printed.now c.loop-k.k c.loop-k-test.true) c.loop-k.invariant.1 c.put_octet.ensures,
    )

pub returns : goal.returns
returns g c = simp (printed_lem, c.put_byte.ensures, c.loop-k.invariant.1, take_all c.loop-k.k c.args.printed.now c.loop-k-test.false, c.put_text.ensures, append_assoc) refl
