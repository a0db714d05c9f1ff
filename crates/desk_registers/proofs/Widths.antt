-- The desk's registers by their places: no register is wider than LAC, and an entry of the code's tables has the width of its place.
-- Assumes nothing.
use mathlib.Core.Path.{◌≡◌, refl, sym, ap, ◌∙◌}
use mathlib.Core.Bool.{Bool, true, ◌&&◌}
use mathlib.Core.List.{List, [], ◌∷◌}
use Prim.Native.Nat.{ℕ, zero, suc, ◌≤◌}
use native.Mathlib.Omega.{arith}
use lib.Dec.{leb}
use lib.ListN.{get_or, get_or-map}
use borrow.Author.Tests.{leb-true}
use Rattle.laws.proofs.Joined.{and_left, and_right}
use Rattle.characters.specs.Named.{Named}
use Rattle.characters.specs.declared.registers.Register.{Register}
use Rattle.machine_state.specs.State.{lac_bits}
use Rattle.characters.specs.Table.{named, nameless}
use Rattle.desk_registers.specs.Registers.{desk_registers, desk_widths}

-- whether no width of a list is above n
abbrev all_within : ℕ → List ℕ → Bool
all_within n [] = true
all_within n (w ∷ ws) = leb w n && all_within n ws

each_within : (n : ℕ) (ws : List ℕ) → all_within n ws ≡ true → (k : ℕ) → get_or ws k 0 ≤ n
each_within n [] t k = omega arith
each_within n (w ∷ ws) t zero = leb-true w n (and_left (leb w n) (all_within n ws) t)
each_within n (w ∷ ws) t (suc k) = each_within n ws (and_right (leb w n) (all_within n ws) t) k

pub width_le : (k : ℕ) → get_or desk_widths k 0 ≤ lac_bits
width_le k = each_within lac_bits desk_widths refl k

pub width_at_lem : (r : Register) (k : ℕ) → named r ≡ get_or desk_registers k nameless → r.width ≡ get_or desk_widths k 0
width_at_lem r k e = ap (λ (n : Named). n.number) e ∙ sym (get_or-map (λ (n : Named). n.number) desk_registers k nameless)
