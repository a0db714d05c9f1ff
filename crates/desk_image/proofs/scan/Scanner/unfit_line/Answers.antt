-- `desk_image::scan::Scanner::unfit_line`: a refused line, else one that has begun.
use Rattle.std.proofs.Common.{◌≡◌, length, arith, rules, sym, ◌∙◌}
use Rattle.desk_image.proofs.Scanning.{unfit_begun}
use Rattle.desk_image.proofs.scan.Scanner.unfit_line.Goals as goal

pub returns-then-self-ne0 : goal.returns-then-self-ne0
returns-then-self-ne0 g c =
    let s = c.args.self.now in
    let most = g.met.L.Lines.most in
    let full : length s.bytes ≡ g.row.N = (search rules) in
    λ memory. unfit_begun g.L.Lines.reading s.line s.size s.refused s.bytes (g.L.Lines.made s.made memory) (full ∙ sym most) (omega (arith, most, g.met.L.Lines.some)) (sym c.is_some.ensures ∙ c.if-is_some.false) c.if-self-ne0.true
