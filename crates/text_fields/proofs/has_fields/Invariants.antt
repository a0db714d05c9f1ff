-- `text_fields::has_fields`: field by field.
use mathlib.Core.Path.{◌≡◌}
use Prim.Native.Nat.{◌+◌, ◌-◌}
use Rattle.text_fields.specs.Fields.{has_fields}
use Rattle.text_fields.proofs.has_fields.Given as goal

abbrev pub invariant-loop : goal.invariant-loop
invariant-loop l = (has_fields l.n l.line ≡ has_fields (l.n + 1 - l.counter) l.rest)
