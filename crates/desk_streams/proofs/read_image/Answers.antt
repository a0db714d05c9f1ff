-- `desk_streams::read_image`: what was scanned from the start is what that text leaves.
use Rattle.std.proofs.Common.{ap, ◌∙◌}
use Rattle.desk_image.specs.Pass.{pass}
use Rattle.desk_image.specs.Scan.{Scan, scan_byte, words}
use Rattle.std.specs.Prelude.{ℕ, List}
use Rattle.desk_streams.proofs.read_image.Goals as goal

pub returns-clause-reached : goal.returns-clause-reached
unfolding pass
returns-clause-reached g c =
    let bytes = c.read_all.ensures.bytes in
    record { text = bytes; is = c.read_all.ensures.passed ∙ ap (λ (x : Scan (List ℕ)). pass (scan_byte words) x bytes) c.begin-scanner.ensures }
