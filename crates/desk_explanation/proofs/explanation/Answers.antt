-- `desk_explanation::explanation`: the scanner tells whether a line was unfit.
use Rattle.std.proofs.Common.{sym, ◌∙◌}
use Rattle.desk_inquiry.specs.Scan.{kept}
use Rattle.desk_explanation.proofs.ByText.{print_refused, print_answered}
use Rattle.desk_explanation.proofs.explanation.Goals as goal

pub returns-in-Some : goal.returns-in-Some
returns-in-Some c = rw (print_refused (kept c.args.s c.args.memory.now) _ (sym c.unfit_line.ensures ∙ c.in-Some.is)) c.put_refused_line.ensures

pub returns : goal.returns
returns c = rw (print_answered (kept c.args.s c.args.memory.now) (sym c.unfit_line.ensures ∙ c.in_default.is))
    (rw (c.machine_in.ensures, c.devices_in.ensures, c.part.ensures) at c.answered.ensures)
