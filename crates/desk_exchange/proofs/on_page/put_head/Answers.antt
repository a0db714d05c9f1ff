-- `desk_exchange::on_page::put_head`: a number of 64 bits has at most 20 digits.
use Rattle.std.proofs.Common.{rules, arith, refl, append_assoc, length-append}
use Rattle.page.proofs.Writing.{written_of}
use Rattle.page.proofs.Numbers.{decimal_length}
use Rattle.desk_exchange.specs.Exchange.{read_line}
use Rattle.desk_exchange.proofs.on_page.put_head.Goals as goal

pub put_decimal-requires : goal.put_decimal-requires
put_decimal-requires c =
    (search rules, simp (c.put_text.ensures, c.new-draft.ensures) (omega (arith, decimal_length 19 c.args.read (search rules))))

pub put_text-requires-2 : goal.put_text-requires-2
put_text-requires-2 c =
    (search rules, simp (c.put_decimal.ensures, c.put_text.ensures, c.new-draft.ensures, length-append) (omega (arith, decimal_length 19 c.args.read (search rules))))

pub copy_at-requires : goal.copy_at-requires
copy_at-requires c =
    (search rules, simp (c.put_text-2.ensures, c.put_decimal.ensures, c.put_text.ensures, c.new-draft.ensures, length-append) (omega (arith, decimal_length 19 c.args.read (search rules), c.requires)))

pub returns-clause-text : goal.returns-clause-text
unfolding read_line
returns-clause-text c =
    written_of _ c.copy_at.ensures (simp (c.put_text-2.ensures, c.put_decimal.ensures, c.put_text.ensures, c.new-draft.ensures, append_assoc) refl)

pub returns-clause-room : goal.returns-clause-room
returns-clause-room c =
    rw c.copy_at.ensures.place
    (simp (c.put_text-2.ensures, c.put_decimal.ensures, c.put_text.ensures, c.new-draft.ensures, length-append) (omega (arith, decimal_length 19 c.args.read (search rules))))
