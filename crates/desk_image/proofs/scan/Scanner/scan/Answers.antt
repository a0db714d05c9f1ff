-- `desk_image::scan::Scanner::scan`: what is left of the chunk takes the scanner where the whole takes it.
use Rattle.std.proofs.Common.{sym, ◌∙◌}
use Rattle.desk_image.specs.Scan.{scan_byte, begun}
use Rattle.desk_image.proofs.Pass.{pass_end, pass_on, passed}
use Rattle.desk_image.proofs.scan.Scanner.scan.Goals as goal

pub loop-b-preserved : goal.loop-b-preserved
loop-b-preserved g c =
    c.loop-b.invariant ∙ pass_on (scan_byte g.L.Lines.reading) _ _ _ c.loop-b.b-index c.loop-b-test.true c.scan_byte.ensures

pub returns : goal.returns
returns g c =
    let step = scan_byte g.L.Lines.reading in
    passed step (begun g.L.Lines.reading) _ _ _ (sym (c.loop-b.invariant ∙ pass_end step _ _ c.loop-b.b-index c.loop-b-test.false))
