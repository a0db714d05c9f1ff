-- `desk_exchange::on_page::put_exchange`: the head, the bytes printed, LF.
use Rattle.std.proofs.Common.{rules, arith, refl, true, [], ◌∷◌, ◌++◌, ◌<◌, append_assoc, length, take, length-take-le}
use Rattle.characters.specs.Ascii.{ascii, line_feed}
use Rattle.page.proofs.Writing.{written_of, written_then}
use Rattle.desk_exchange.specs.Exchange.{read_line, octets_from, printed_line, exchange_lines}
use Rattle.desk_exchange.proofs.on_page.put_exchange.Goals as goal

pub put_printed_bytes-end-requires : goal.put_printed_bytes-end-requires
put_printed_bytes-end-requires c =
    let told = length-take-le c.args.printed c.args.output.now c.requires.told in
    omega (arith, c.put_head-bytes.ensures.room, c.put_head-bytes.auto.page, told, c.requires.room)

pub bounds-page-end : goal.bounds-page-end
bounds-page-end c =
    let told = length-take-le c.args.printed c.args.output.now c.requires.told in
    omega (arith, c.put_printed_bytes-end.ensures.room, c.put_printed_bytes-end.auto.page, c.put_head-bytes.ensures.room, c.put_head-bytes.auto.page, told, c.requires.room)

pub overflow_add-result : goal.overflow_add-result
overflow_add-result c =
    let told = length-take-le c.args.printed c.args.output.now c.requires.told in
    let inside : c.put_printed_bytes-end.result < length c.args.page.now =
    omega (arith, c.put_printed_bytes-end.ensures.room, c.put_head-bytes.ensures.room, told, c.requires.room) in
    search rules

pub returns : goal.returns
unfolding exchange_lines printed_line
returns c =
    let head = read_line c.args.read ++ ascii "printed\t" in
    let bytes = octets_from true (take c.args.printed c.args.output.now) in
    let written = written_then head bytes c.put_head-bytes.ensures.text c.put_printed_bytes-end.ensures.text in
    written_of (exchange_lines c.args.read (take c.args.printed c.args.output.now))
    (written_then (head ++ bytes) (line_feed ∷ []) written (record { page = refl; place = refl }))
    (simp append_assoc refl)
