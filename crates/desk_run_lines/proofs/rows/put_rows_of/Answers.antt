-- `desk_run_lines::rows::put_rows_of`: the rows read have been written.
use Rattle.std.proofs.Common.{rules, arith, sym, append-nil}
use lib.ListN.{get_or}
use Rattle.page.proofs.Writing.{drafted_more, drafted_size}
use Rattle.desk_run_lines.specs.Rows.{row_line, row_lines}
use Rattle.desk_run_lines.proofs.RowTexts.{row_line_size, rows_more}
use Rattle.desk_run_lines.proofs.rows.put_rows_of.Goals as goal

pub loop-k-init : goal.loop-k-init
unfolding row_lines
loop-k-init c = (omega arith, sym (append-nil _))

pub loop-k-preserved : goal.loop-k-preserved
loop-k-preserved c =
    let k = get_or c.args.rows.now c.loop-k.k-index 0 in
    let small = row_line_size c.args.text.now k c.requires.short (search rules) in (
      omega (arith, c.loop-k.invariant.0, drafted_size c.loop-k.draft (row_line c.args.text.now k) c.put_row.ensures, small),
      drafted_more _ _ _ (rows_more c.args.text.now c.args.rows.now c.loop-k.k-index c.loop-k-test.true) c.loop-k.invariant.1 c.put_row.ensures,
    )
