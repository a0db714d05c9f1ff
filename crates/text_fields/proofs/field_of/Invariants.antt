-- `text_fields::field_of`: the field of what is left is the field of the line.
use mathlib.Core.Path.{◌≡◌}
use Prim.Native.Nat.{◌-◌}
use Rattle.text_fields.specs.Fields.{field}
use Rattle.text_fields.proofs.field_of.Given as goal

abbrev pub invariant-loop : goal.invariant-loop
invariant-loop l = (field l.n l.line ≡ field (l.n - l.counter) l.rest)
