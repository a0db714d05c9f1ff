-- `desk_streams::read_all`: after each read what was scanned is what the reader has lost.
use Rattle.desk_image.specs.Scan.{scan_byte, kept_by}
use Rattle.desk_streams.specs.Scans.{Scans}
use Rattle.desk_streams.proofs.read_all.Given as goal

abbrev pub invariant-loop : goal.invariant-loop
invariant-loop g l =
    Scans (scan_byte g.L.Lines.reading) (kept_by g.L.Lines.made l.initial.s l.initial.memory) (kept_by g.L.Lines.made l.s l.memory)
    (g.R.Read.remaining l.initial.from) (g.R.Read.remaining l.from)
