-- `desk_exchange::put_exchange`: one line after the other.
use Rattle.std.proofs.Common.{rules, arith, refl, append_assoc, length-append}
use Rattle.page.proofs.Numbers.{decimal_length}
use Rattle.desk_exchange.specs.Exchange.{read_line, exchange_lines}
use Rattle.desk_exchange.proofs.put_exchange.Goals as goal

pub put_decimal-requires : goal.put_decimal-requires
put_decimal-requires g c =
    let digits = decimal_length 19 c.args.read (search rules) in
    (search rules, simp (c.put_text.ensures, length-append) (omega (arith, digits, c.requires)))

pub put_byte-requires : goal.put_byte-requires
put_byte-requires g c =
    let digits = decimal_length 19 c.args.read (search rules) in
    (search rules, simp (c.put_decimal.ensures, c.put_text.ensures, length-append) (omega (arith, digits, c.requires)))

pub put_printed-requires : goal.put_printed-requires
put_printed-requires g c =
    let digits = decimal_length 19 c.args.read (search rules) in
    (search rules, simp (c.put_byte.ensures, c.put_decimal.ensures, c.put_text.ensures, length-append) (omega (arith, digits, c.requires)))

pub returns : goal.returns
unfolding exchange_lines read_line
returns g c = simp (c.put_printed.ensures, c.put_byte.ensures, c.put_decimal.ensures, c.put_text.ensures, append_assoc) refl
