-- `text_constants::shortest_form`: one number of bits after the other is tried.
use mathlib.Core.Path.{◌≡◌}
use Prim.Native.Nat.{◌-◌}
use Rattle.text_constants.specs.Constants.{shortest, shortest_from}
use Rattle.text_constants.proofs.shortest_form.Given as goal

abbrev pub invariant-loop-n : goal.invariant-loop-n
invariant-loop-n l = shortest l.v ≡ shortest_from (15 - l.n) l.n l.v
