-- `shipped_rows::shipped_text`: the bytes are the definition's, with devices and without.
use mathlib.Core.Path.{sym, ap}
use mathlib.Core.Bool.{Bool}
use Rattle.shipped_rows.specs.Text.{shipped_text}
use Rattle.shipped_rows.specs.Variant.{variant_of}
use Rattle.shipped_rows.proofs.shipped_text.Goals as goal

pub returns-then-devices : goal.returns-then-devices
unfolding shipped_text
returns-then-devices c = sym (ap (λ (b : Bool). shipped_text (variant_of b)) c.if-devices.true)

pub returns-else-devices : goal.returns-else-devices
unfolding shipped_text
returns-else-devices c = sym (ap (λ (b : Bool). shipped_text (variant_of b)) c.if-devices.false)
