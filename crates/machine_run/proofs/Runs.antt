-- The machine's runs: what they keep; and the bound that the loop's one test compares with.
-- Assumes nothing.
use mathlib.Core.Path.{◌≡◌}
use Prim.Native.Nat.{ℕ, zero, suc, ◌*◌, ◌≤◌, ◌<◌}
use native.Mathlib.Omega.{arith}
use Rattle.word.specs.Choice.{on, pick}
use Rattle.runs.proofs.Runs.{run_keeps}
use Rattle.machine_state.specs.State.{State, Good}
use Rattle.machine_run.specs.Step.{step}
use Rattle.machine_run.specs.Run.{running, run}
use Rattle.machine_run.proofs.Keeps.{step_good}

-- a run keeps words and registers within their widths
pub run_good : (budget : ℕ) {s : State} → Good s → Good (run budget s).left
run_good budget {s} g = run_keeps running step Good (λ x h. step_good h) budget s g

-- a number times a bit: the number, or 0 where the bit is 0
pub bound_is : (n b : ℕ) → b < 2 → n * b ≡ pick (on b) n 0
bound_is n zero h = omega arith
bound_is n (suc zero) h = omega arith
bound_is n (suc (suc b)) h = absurd (omega arith)

pub bound_le : (n b : ℕ) → b < 2 → n * b ≤ n
bound_le n zero h = omega arith
bound_le n (suc zero) h = omega arith
bound_le n (suc (suc b)) h = absurd (omega arith)
