-- `desk_exchange::on_page::put_printed_byte`: the draft is that of the byte.
use Rattle.std.proofs.Common.{rules, arith, refl}
use Rattle.page.proofs.Writing.{written_of}
use Rattle.desk_exchange.proofs.Printed.{octet_size}
use Rattle.desk_exchange.proofs.on_page.put_printed_byte.Goals as goal

pub copy_at-requires : goal.copy_at-requires
copy_at-requires c =
    (search rules, simp (c.put_octet.ensures, c.new-draft.ensures) (omega (arith, octet_size c.args.first c.args.b, c.requires)))

pub returns : goal.returns
returns c = written_of _ c.copy_at.ensures (simp (c.put_octet.ensures, c.new-draft.ensures) refl)
