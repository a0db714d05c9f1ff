-- `desk_image::scan::Scanner::after_read`: where the read failed no byte was read.
use Rattle.std.proofs.Common.{[], ap, refl, rules, sym}
use Rattle.desk_image.specs.Scan.{scan_byte, begun}
use Rattle.desk_image.specs.Pass.{pass}
use Rattle.desk_image.specs.Read.{bytes_read}
use Rattle.desk_image.proofs.Pass.{passed}
use Rattle.desk_image.proofs.Read.{after_read}
use Rattle.desk_image.proofs.scan.Scanner.after_read.Goals as goal

pub returns-in_err-n : goal.returns-in_err-n
unfolding pass
returns-in_err-n g c =
    let step = scan_byte g.L.Lines.reading in
    let start = begun g.L.Lines.reading in
    after_read step start _ _ c.args.read _ c.args.buffer.now [] (search (rules, c.in_err-n.was)) (sym (ap (λ r. bytes_read r c.args.buffer.now) c.in_err-n.was))
    (passed step start _ _ _ refl)
