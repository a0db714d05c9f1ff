-- `evaluator::checks::check`: 11 to 14 over the padded widths, then 15.
use Rattle.evaluator.proofs.Padding.{padded_le}
use Rattle.evaluator.proofs.checks.check.Goals as goal

pub check_state-requires : goal.check_state-requires
check_state-requires c = padded_le c.args.d _ c.widths_of.ensures c.requires
