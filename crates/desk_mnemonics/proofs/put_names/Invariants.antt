-- `desk_mnemonics::put_names`: the names read have been written, each with its mark at most four bytes.
use Rattle.std.proofs.Common.{◌≡◌, ◌+◌, ◌*◌, ◌≤◌, ◌++◌, length}
use Rattle.desk_mnemonics.specs.Sizes.{name_bytes}
use Rattle.desk_mnemonics.proofs.Names.{begun, mark_of, found}
use Rattle.desk_mnemonics.proofs.put_names.Given as goal

abbrev pub invariant-loop-name : goal.invariant-loop-name
invariant-loop-name g l =
    (length l.draft ≤ length l.initial.draft + name_bytes * l.name-index)
    × (l.mark ≡ mark_of (found l.i l.names l.name-index))
    × (l.draft ≡ l.initial.draft ++ begun (found l.i l.names l.name-index))
