-- `desk_exchange::on_page::put_printed_bytes`: the bytes read have been written.
use Rattle.std.proofs.Common.{rules, arith, refl, take_all}
use lib.Dec.{eqb}
use lib.ListN.{get_or}
use Rattle.page.proofs.Writing.{written_none, written_then}
use Rattle.desk_exchange.specs.Exchange.{octets_from}
use Rattle.desk_exchange.proofs.Printed.{octets_more, octet_size}
use Rattle.desk_exchange.proofs.on_page.put_printed_bytes.Goals as goal

pub loop-k-init : goal.loop-k-init
unfolding octets_from
loop-k-init c = (omega arith, refl, written_none _ _)

pub put_printed_byte-end-requires : goal.put_printed_byte-end-requires
put_printed_byte-end-requires c = omega (arith, c.loop-k.invariant.0, c.loop-k.invariant.1, c.loop-k-test.true, c.requires)

pub loop-k-preserved : goal.loop-k-preserved
loop-k-preserved c =
    let first = eqb c.loop-k.k 0 in
    let b = get_or c.args.printed.now c.loop-k.k 0 in (
      omega (arith, c.loop-k.invariant.0, c.put_printed_byte-end.ensures.place, octet_size first b),
      search rules,
      rw (octets_more c.args.printed.now c.loop-k.k c.loop-k-test.true) (written_then _ _ c.loop-k.invariant.2 c.put_printed_byte-end.ensures),
    )

pub shape_of-page : goal.shape_of-page
shape_of-page c = c.loop-k.invariant.1

pub returns-clause-text : goal.returns-clause-text
returns-clause-text c = rw (← take_all c.loop-k.k c.args.printed.now c.loop-k-test.false) c.loop-k.invariant.2
