-- `text_constants::digits_value`: what is read and what is left make the number; four bits a digit bound it.
use mathlib.Core.Path.{◌≡◌}
use Prim.Native.Nat.{◌+◌, ◌-◌, ◌*◌, ◌^◌, ◌<◌}
use Rattle.text_constants.specs.Constants.{number_at}
use Rattle.text_constants.proofs.digits_value.Given as goal

abbrev pub invariant-loop-digit : goal.invariant-loop-digit
invariant-loop-digit l =
    record {
      bounded : l.v < 2 ^ (64 - 4 * (l.n - l.digit-index));
      same : number_at l.base l.s l.at l.n 0 ≡ number_at l.base l.s (l.at + l.digit-index) (l.n - l.digit-index) l.v;
    }
