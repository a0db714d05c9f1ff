-- A cycle without the numbers of the rows that acted: the state that it leaves.
-- Assumes nothing.
use mathlib.Core.Path.{◌≡◌, refl}
use mathlib.Core.Bool.{Bool, true, false}
use mathlib.Core.List.{List, [], ◌∷◌}
use Prim.Native.Nat.{ℕ, zero, suc}
use lib.ListN.{drop}
use Rattle.word.specs.Choice.{on}
use Rattle.text_declaration.specs.Rows.{Row, does, goes}
use Rattle.rows_value.specs.Value.{State, value, store}
use Rattle.rows_cycles.specs.Cycle.{Cycle, noted, cycle_from}

unfoldable pub unnoted : List Row → ℕ → State → State
unnoted [] k s = s
unnoted (r ∷ rs) (suc k) s = unnoted rs k s
unnoted (does c d e ∷ rs) zero s = elim (on (value s c)) [ true ↦ unnoted rs 0 (store s d (value s e)) | false ↦ unnoted rs 0 s ]
unnoted (goes c m ∷ rs) zero s = elim (on (value s c)) [ true ↦ unnoted rs m s | false ↦ unnoted rs 0 s ]

abbrev left : Cycle → State
left c = c.state

-- a test decides alike in both
alike : (n : ℕ) (t : Bool) (a b : Cycle) {x y : State} → a.state ≡ x → b.state ≡ y
    → left (elim t [ true ↦ noted n a | false ↦ b ]) ≡ elim t [ true ↦ x | false ↦ y ]
alike n true a b p q = p
alike n false a b p q = q

pub cycle_unnoted : (n : ℕ) (rs : List Row) (k : ℕ) (s : State) → (cycle_from n rs k s).state ≡ unnoted rs k s
unfolding cycle_from unnoted
cycle_unnoted n [] k s = refl
cycle_unnoted n (r ∷ rs) (suc k) s = cycle_unnoted (suc n) rs k s
cycle_unnoted n (does c d e ∷ rs) zero s =
    alike n (on (value s c)) (cycle_from (suc n) rs 0 (store s d (value s e))) (cycle_from (suc n) rs 0 s)
    (cycle_unnoted (suc n) rs 0 (store s d (value s e)))
    (cycle_unnoted (suc n) rs 0 s)
cycle_unnoted n (goes c m ∷ rs) zero s =
    alike n (on (value s c)) (cycle_from (suc n) rs m s) (cycle_from (suc n) rs 0 s) (cycle_unnoted (suc n) rs m s) (cycle_unnoted (suc n) rs 0 s)

-- to pass over rows is to go on with the rows below them
pub unnoted_drop : (rs : List Row) (k : ℕ) (s : State) → unnoted rs k s ≡ unnoted (drop k rs) 0 s
unfolding unnoted
unnoted_drop [] zero s = refl
unnoted_drop [] (suc k) s = refl
unnoted_drop (r ∷ rs) zero s = refl
unnoted_drop (r ∷ rs) (suc k) s = unnoted_drop rs k s
