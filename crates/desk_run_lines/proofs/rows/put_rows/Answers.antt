-- `desk_run_lines::rows::put_rows`: the text is the machine's.
use Rattle.std.proofs.Common.{sym, subst}
use Rattle.desk_run_lines.specs.Sizes.{Short}
use Rattle.desk_run_lines.proofs.RowTexts.{shipped_short}
use Rattle.desk_run_lines.proofs.rows.put_rows.Goals as goal

pub put_rows_of-requires-clause-short : goal.put_rows_of-requires-clause-short
put_rows_of-requires-clause-short c = subst Short (sym c.shipped_text.ensures) (shipped_short _)
