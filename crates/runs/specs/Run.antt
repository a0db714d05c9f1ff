-- A run, whatever is run: "A run makes steps (the evaluator: cycles), each from what the last one left, while RUN is 1 and fewer than the budget are done. It
-- reports their number as steps done". Whether it goes on, and what a step does, is said by those that run.
-- Assumes nothing.
use Rattle.std.specs.Prelude.{Bool, true, false, ℕ, zero, suc}

-- what a run leaves, and its steps
pub record Ended (A : Type 0) : Type 0 where
  pub left : A
  pub steps : ℕ

abbrev pub ended : {A : Type 0} → ℕ → A → Ended A
ended done x = record { left = x; steps = done }

-- `budget` steps may still be made, and `done` steps have been made
unfoldable pub run_from : {A : Type 0} → (A → Bool) → (A → A) → ℕ → ℕ → A → Ended A
run_from goes_on step zero done x = ended done x
run_from goes_on step (suc budget) done x = elim (goes_on x) [ true ↦ run_from goes_on step budget (suc done) (step x) | false ↦ ended done x ]

-- the run of a budget
abbrev pub run : {A : Type 0} → (A → Bool) → (A → A) → ℕ → A → Ended A
run goes_on step budget x = run_from goes_on step budget 0 x
