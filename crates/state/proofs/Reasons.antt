-- "the reason is `halted` if RUN is 0, else `paper`, else `spent`": in this order.
-- Assumes nothing.
use mathlib.Core.Path.{◌≡◌, refl}
use mathlib.Core.Bool.{Bool, true, false}
use Rattle.word.specs.Choice.{on}
use Rattle.word.proofs.Choice.{case_true}
use Prim.Native.Nat.{ℕ}
use Rattle.state.specs.Refusals.{reason_with}
use Rattle.state.specs.declared.Reason.TheVariants.{Halted, Spent, Paper}

-- RUN 0: halted, whether or not there is a place left
pub halted_first : (place : Bool) → reason_with 0 place ≡ Halted
halted_first place = refl

-- no place left: paper, also where the budget is done
pub paper_next : (run : ℕ) → on run ≡ true → reason_with run false ≡ Paper
paper_next run e = case_true (on run) Paper Halted e

pub spent_last : (run : ℕ) → on run ≡ true → reason_with run true ≡ Spent
spent_last run e = case_true (on run) Spent Halted e
