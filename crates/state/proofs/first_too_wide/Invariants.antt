-- `state::first_too_wide`: what is left to scan has the answer of the whole.
use mathlib.Core.Path.{◌≡◌}
use Prim.Native.Nat.{ℕ, ◌≤◌}
use lib.ListN.{length, get_or, drop}
use Rattle.state.specs.Checks.{first_too_wide}
use Rattle.state.proofs.first_too_wide.Given as goal

abbrev pub invariant-loop-place : goal.invariant-loop-place
invariant-loop-place l = let width : ℕ → ℕ = λ k. get_or l.widths k l.beyond in
    (l.place ≤ length l.values) × (first_too_wide width 0 l.values ≡ first_too_wide width l.place (drop l.place l.values))
