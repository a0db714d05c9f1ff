-- Op 2 by the word that it leaves: where that is not 0, PC stays; where it is 0, PC is increased.
-- Assumes nothing.
use mathlib.Core.Path.{◌≡◌, subst}
use Prim.Native.Nat.{ℕ}
use lib.Dec.{eqb}
use borrow.Author.Tests.{eq-eqb, ne_eqb}
use Rattle.word.specs.Choice.{pick}
use Rattle.word.specs.Word.{next}
use Rattle.machine_state.specs.State.{State, word, stored, with_pc}
use Rattle.machine_reference.specs.Reference.{increment_and_skip}

-- the state that op 2 leaves, of the increased word
left : ℕ → ℕ → State → State
left e w s = with_pc (pick (eqb w 0) (next s.pc) s.pc) (stored e w s)

pub isz_stays : (e w : ℕ) (s : State) → w ≡ next (word e s) → (w ≡ 0 → ⊥) → stored e w s ≡ increment_and_skip e s
unfolding left
isz_stays e w s increased h = subst (λ (n : ℕ). stored e w s ≡ left e n s) increased (simp (ne_eqb w 0 h))

pub isz_skips : (e w : ℕ) (s : State) → w ≡ next (word e s) → w ≡ 0 → with_pc (next s.pc) (stored e w s) ≡ increment_and_skip e s
unfolding left
isz_skips e w s increased h = subst (λ (n : ℕ). with_pc (next s.pc) (stored e w s) ≡ left e n s) increased (simp (eq-eqb w 0 h))
