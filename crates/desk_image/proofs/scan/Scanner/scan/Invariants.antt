-- `desk_image::scan::Scanner::scan`: what is left of the chunk takes the scanner where the whole takes it.
use Rattle.std.proofs.Common.{◌≡◌, drop}
use Rattle.desk_image.specs.Pass.{pass}
use Rattle.desk_image.specs.Scan.{scan_byte, kept_by}
use Rattle.desk_image.proofs.scan.Scanner.scan.Given as goal

abbrev pub invariant-loop-b : goal.invariant-loop-b
invariant-loop-b g l =
    pass (scan_byte g.L.Lines.reading) (kept_by g.L.Lines.made l.initial.self l.initial.memory) l.chunk
    ≡ pass (scan_byte g.L.Lines.reading) (kept_by g.L.Lines.made l.self l.memory) (drop l.b-index l.chunk)
