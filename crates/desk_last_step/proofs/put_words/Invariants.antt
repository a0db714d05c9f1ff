-- `desk_last_step::put_words`: the words passed have been written.
use Rattle.std.proofs.Common.{◌≡◌, ◌++◌, take}
use Rattle.desk_last_step.specs.LastStep.{change_lines}
use Rattle.desk_last_step.proofs.put_words.Given as goal

abbrev pub invariant-loop-address : goal.invariant-loop-address
invariant-loop-address g l = l.draft ≡ l.initial.draft ++ change_lines 0 (take l.address l.before) (take l.address l.after)
