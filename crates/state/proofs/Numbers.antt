-- The numbers of refusals. 0 is none's: an answer has it where nothing is refused.
-- Assumes nothing.
use mathlib.Core.Path.{◌≡◌}
use native.Mathlib.Omega.{arith}
use Rattle.state.specs.Refusals.{number_of}
use Rattle.state.specs.declared.Refusal.{Refusal}
use Rattle.state.specs.declared.Refusal.TheVariants.{MemoryLength, Word, Register, Budget, RowList}

pub numbered : (why : Refusal) → number_of why ≡ 0 → ⊥
numbered MemoryLength e = omega arith
numbered (Word place) e = omega arith
numbered (Register place) e = omega arith
numbered Budget e = omega arith
numbered RowList e = omega arith
