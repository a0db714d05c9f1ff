-- `desk_streams::read_all`: one read more, whether it failed, was the last or neither.
use Rattle.desk_image.specs.Scan.{scan_byte}
use Rattle.desk_streams.proofs.Scans.{scans_none, scans_more}
use Rattle.desk_streams.proofs.read_all.Goals as goal

pub loop-init : goal.loop-init
loop-init g c = scans_none (scan_byte g.L.Lines.reading) _ _

pub returns-in_err-read_some : goal.returns-in_err-read_some
returns-in_err-read_some g c = scans_more (scan_byte g.L.Lines.reading) _ _ _ _ _ _ c.loop.invariant c.read_some.ensures.scans

pub loop-preserved : goal.loop-preserved
loop-preserved g c = scans_more (scan_byte g.L.Lines.reading) _ _ _ _ _ _ c.loop.invariant c.read_some.ensures.scans

pub returns-then-branch-eq0 : goal.returns-then-branch-eq0
returns-then-branch-eq0 g c = scans_more (scan_byte g.L.Lines.reading) _ _ _ _ _ _ c.loop.invariant c.read_some.ensures.scans
