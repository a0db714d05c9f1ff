-- `machine_operate::accumulator::change` clears, then complements.
use mathlib.Core.Path.{ap, ◌∙◌}
use Prim.Native.Nat.{ℕ}
use Rattle.machine_operate.specs.Operate.{complemented, link_complemented}
use Rattle.machine_operate.proofs.Changes.{cleared_lt, link_cleared_lt}
use Rattle.machine_operate.proofs.accumulator.change.Goals as goal

pub returns : goal.returns
returns c = let left = c.kept.ensures c.args.lac c.requires in
    c.complemented_bits.ensures _ (rw left (link_cleared_lt c.args.i (cleared_lt c.args.i c.requires)))
    ∙ ap (λ (x : ℕ). link_complemented c.args.i (complemented c.args.i x)) left
