-- A text in a caller's room: where it fits, where it does not, and where there is none.
-- Assumes nothing.
use mathlib.Core.Path.{◌≡◌, sym, ap, ◌∙◌}
use mathlib.Core.Bool.{Bool}
use mathlib.Core.List.{List, [], ◌++◌}
use Prim.Native.Nat.{ℕ, ◌≤◌, ◌<◌}
use native.Mathlib.Omega.{arith}
use borrow.Author.Tests.{ne_eqb, le-leb, lt-leb}
use lib.Dec.{eqb}
use lib.ListN.{length, drop}
use Rattle.word.specs.Choice.{pick}
use Rattle.shipped_rows.specs.Variant as variant
use Rattle.shipped_rows.specs.Text.{shipped_text}
use Rattle.guavachisel.specs.Outcome.{places, answered}
use Rattle.guavachisel.specs.Shipping.{plain, devices, shipped_of, written, Shipped}

pub fits : (text room : List ℕ) → length text ≤ length room → text ++ drop (length text) room ≡ written text room
unfolding written
fits text room h =
    sym (ap (λ (b : Bool). pick b (text ++ drop (length text) room) room) (le-leb (length text) (length room) h))

pub too_long : (text room : List ℕ) → length room < length text → room ≡ written text room
unfolding written
too_long text room h = sym (ap (λ (b : Bool). pick b (text ++ drop (length text) room) room) (lt-leb (length text) (length room) h))

-- a number that is not one of the two has no text
pub no_text : (which : ℕ) → (which ≡ plain → ⊥) → (which ≡ devices → ⊥) → shipped_of which ≡ []
unfolding shipped_of
no_text which e d =
    ap (λ (b : Bool). pick b (shipped_text variant.plain) (pick (eqb which devices) (shipped_text variant.devices) [])) (ne_eqb which plain e)
    ∙ ap (λ (b : Bool). pick b (shipped_text variant.devices) []) (ne_eqb which devices d)

-- a number with a description, and one without
module _ (which : ℕ) (room : List ℕ) where
  pub described : (text room' out : List ℕ) → text ≡ shipped_of which → room' ≡ written text room → out ≡ places (answered (length text)) → Shipped which room room' out
  described text room' out is g h =
      record {
        text = g ∙ ap (λ (t : List ℕ). written t room) is;
        outcome = h ∙ ap (λ (t : List ℕ). places (answered (length t))) is;
      }

  pub undescribed : (out : List ℕ) → shipped_of which ≡ [] → out ≡ places (answered 0) → Shipped which room room out
  undescribed out none h = described [] room out (sym none) (fits [] room (omega arith)) h
