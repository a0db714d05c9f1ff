-- `desk_explanation::places_of`: each value at its place.
use mathlib.Core.Path.{sym, ap}
use mathlib.Core.Bool.{Bool}
use Rattle.desk_explanation.specs.Explanation.{places_of}
use Rattle.desk_explanation.proofs.places_of.Goals as goal

pub returns-then-devices : goal.returns-then-devices
returns-then-devices c = sym (ap (λ (d : Bool). places_of d c.args.m c.args.c) c.if-devices.true)

pub returns : goal.returns
returns c = sym (ap (λ (d : Bool). places_of d c.args.m c.args.c) c.if-devices.false)
