-- "If INTERRUPT.ENABLE and INTERRUPT.REQUEST are both 1": of two bits, as one test of their and.
-- Assumes nothing.
use mathlib.Core.Path.{◌≡◌, ap, ◌∙◌}
use mathlib.Core.Bool.{true, false, not, ◌&&◌}
use Prim.Native.Nat.{ℕ, ◌<◌}
use borrow.Author.Tests.{eq-eqb, ne_eqb}
use lib.Bits.{bit_and}
use Rattle.word.specs.Choice.{on}
use Rattle.word.proofs.Choice.{on_and}

pub served : {a b : ℕ} → a < 2 → b < 2 → (bit_and a b ≡ 0 → ⊥) → (on a && on b) ≡ true
served {a} {b} h q e = on_and a b h q ∙ ap not (ne_eqb _ _ e)

pub unserved : {a b : ℕ} → a < 2 → b < 2 → bit_and a b ≡ 0 → (on a && on b) ≡ false
unserved {a} {b} h q e = on_and a b h q ∙ ap not (eq-eqb _ _ e)
