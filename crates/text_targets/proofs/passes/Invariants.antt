-- `text_targets::passes`: line by line.
use mathlib.Core.Path.{◌≡◌}
use Prim.Native.Nat.{◌+◌, ◌≤◌}
use lib.ListN.{length}
use Rattle.text_fields.specs.Fields.{lines}
use Rattle.text_targets.specs.Targets.{further, passes}
use Rattle.text_targets.proofs.passes.Given as goal

abbrev pub invariant-loop-line : goal.invariant-loop-line
invariant-loop-line l =
    (passes l.label (lines l.below) ≡ further l.n (passes l.label (lines l.line-iterator.rest.now)))
    × (l.n + length l.line-iterator.rest.now ≤ length l.below)
