-- `desk_image::scan::Scanner::scan_byte`: a refused line stays; the LF ends the line; another byte is one more of it.
use Rattle.std.proofs.Common.{rules, ◌≡◌, length, arith, sym, ◌∙◌}
use Rattle.desk_image.proofs.Scanning.{byte_refused, byte_feed, byte_more, byte_long}
use Rattle.desk_image.proofs.scan.Scanner.scan_byte.Goals as goal

pub returns-then-is_some : goal.returns-then-is_some
returns-then-is_some g c =
    let s = c.args.self.now in
    byte_refused g.L.Lines.reading s.line s.size s.refused s.bytes _ _ (sym c.is_some.ensures ∙ c.if-is_some.true)

pub returns-then-b-eq-LINE_FEED : goal.returns-then-b-eq-LINE_FEED
returns-then-b-eq-LINE_FEED g c =
    let s = c.args.self.now in
    byte_feed g.L.Lines.reading s.line s.size s.refused s.bytes _ _ (sym c.is_some.ensures ∙ c.if-is_some.false) c.if-b-eq-LINE_FEED.true c.end_line.ensures

pub returns-then-size : goal.returns-then-size
returns-then-size g c =
    let s = c.args.self.now in
    let most = g.met.L.Lines.most in
    let full : length s.bytes ≡ g.row.N = (search rules) in
    byte_more g.L.Lines.reading s.line s.size s.refused s.bytes _ c.args.b (sym c.is_some.ensures ∙ c.if-is_some.false) (full ∙ sym most) c.if-b-eq-LINE_FEED.false
    (omega (arith, most, c.if-size.true))

pub returns-else-size : goal.returns-else-size
returns-else-size g c =
    let s = c.args.self.now in
    let most = g.met.L.Lines.most in
    let full : length s.bytes ≡ g.row.N = (search rules) in
    byte_long g.L.Lines.reading s.line s.size s.refused s.bytes _ _ (sym c.is_some.ensures ∙ c.if-is_some.false) (full ∙ sym most) c.if-b-eq-LINE_FEED.false
    (omega (arith, most, c.if-size.false)) (c.refuse.ensures c.args.memory.now)
