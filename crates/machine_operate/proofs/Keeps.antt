-- Op 7 keeps words and registers within their widths.
-- Assumes nothing.
use Prim.Native.Nat.{ℕ, ◌<◌}
use lib.Dec.{lit<}
use Rattle.word.specs.Choice.{on}
use Rattle.word.proofs.Choice.{pick_either}
use Rattle.machine_state.specs.State.{State, Good}
use Rattle.machine_state.specs.Instruction.{flag}
use Rattle.machine_state.proofs.Keeps.{lac_good, pc_good, run_good}
use Rattle.machine_operate.specs.Operate.{group1, group2, group3, operate}
use Rattle.machine_operate.proofs.Changes.{cleared_lt, changed_lt, rotated_lt, switched_lt}
use Rattle.machine_operate.proofs.Skipped.{skip_lt}

pub operate_good : (i : ℕ) {s : State} → Good s → Good (operate i s)
unfolding operate group1 group2 group3
operate_good i {s} g =
    pick_either Good (on (flag 3 i))
    (pick_either Good (on (flag 11 i)) (lac_good (cleared_lt i g.lac) g)
    (pc_good (skip_lt i s.lac g.pc)
    (lac_good (switched_lt i s.switches (cleared_lt i g.lac))
    (run_good (pick_either (λ (x : ℕ). x < 2) (on (flag 10 i)) (lit< tt) g.run) g))))
    (lac_good (rotated_lt i (changed_lt i g.lac)) g)
