-- `state::check_memory`: where the largest word is none too wide the memory is acceptable.
use Rattle.std.proofs.Common.{rules, sym, ◌∙◌}
use native.Mathlib.Omega.{arith}
use borrow.Author.Tests.{ltb-true}
use Rattle.state.proofs.Accepted.{acceptable_memory}
use Rattle.state.proofs.check_memory.Goals as goal

pub returns-then-is_narrow : goal.returns-then-is_narrow
returns-then-is_narrow c =
    let narrow = ltb-true _ _ (sym c.is_narrow.ensures ∙ c.if-is_narrow.true) in
    sym (acceptable_memory c.args.memory.now (record { size = search rules; words = λ k. omega (arith, c.largest.ensures k, c.from.ensures, narrow) }))
