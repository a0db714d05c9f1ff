-- `rows_value::value_of`: word by word.
use mathlib.Core.Path.{◌≡◌}
use Prim.Native.Nat.{◌+◌, ◌-◌, ◌*◌, ◌≤◌}
use Rattle.rows_value.specs.Words.{stack_places, executed, empty}
use Rattle.rows_value.proofs.value_of.Given as goal

abbrev pub invariant-loop-k : goal.invariant-loop-k
invariant-loop-k l = record {
  shallow : l.depth ≤ stack_places;
  same : executed (record { registers = l.r; memory = l.memory }) l.code l.from l.n empty
      ≡ executed (record { registers = l.r; memory = l.memory }) l.code (l.from + 4 * l.k) (l.n - l.k) (record { places = l.stack; depth = l.depth });
}
