-- The laws of a test: a case for each outcome, which is told.
-- Assumes nothing.
use mathlib.Core.Path.{◌≡◌, refl, sym, ◌∙◌}
use mathlib.Core.Bool.{Bool, true, false, false≢true}

pub by_test : (b : Bool) {P : Type 0} → (b ≡ true → P) → (b ≡ false → P) → P
by_test true p q = p refl
by_test false p q = q refl

-- what holds of each case, where the outcome is told, holds of the case that the test chooses
pub by_case : {A : Type 0} (P : A → Type 0) (b : Bool) {x y : A} → (b ≡ true → P x) → (b ≡ false → P y) → P (elim b [ true ↦ x | false ↦ y ])
by_case P true p q = p refl
by_case P false p q = q refl

-- no test has both outcomes
pub not_so : (b : Bool) {P : Type 0} → b ≡ true → b ≡ false → P
not_so b e f = absurd (false≢true (sym f ∙ e))
