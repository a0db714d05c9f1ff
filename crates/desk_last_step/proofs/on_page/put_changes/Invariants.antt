-- `desk_last_step::on_page::put_changes`: the words passed have been written.
use Rattle.std.proofs.Common.{◌≡◌, length, take}
use Rattle.page.specs.Written.{Written}
use Rattle.desk_last_step.specs.LastStep.{change_lines}
use Rattle.desk_last_step.proofs.on_page.put_changes.Given as goal

abbrev pub invariant-loop-address : goal.invariant-loop-address
invariant-loop-address l =
    (length l.page ≡ length l.initial.page)
    × Written (change_lines 0 (take l.address l.before) (take l.address l.after)) l.initial.page l.at l.page l.end
