-- `explain::read_question`: what was scanned from the start is what that text leaves.
use Rattle.std.proofs.Common.{ap, ◌∙◌}
use Rattle.desk_image.specs.Pass.{pass}
use Rattle.desk_image.specs.Scan.{Scan, scan_byte}
use Rattle.desk_inquiry.specs.Input.{Inquiry}
use Rattle.desk_inquiry.specs.Scan.{asking}
use Rattle.explain.proofs.read_question.Goals as goal

pub returns-clause-reached : goal.returns-clause-reached
unfolding pass
returns-clause-reached g c =
    let bytes = c.read_all.ensures.bytes in
    record { text = bytes; is = c.read_all.ensures.passed ∙ ap (λ (x : Scan Inquiry). pass (scan_byte asking) x bytes) c.begin-scanner.ensures }
