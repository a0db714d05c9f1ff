-- `text_operators::names::place_in`: the place that the library finds.
use denote.Bor.{Bor}
use mathlib.Core.List.{List}
use Prim.Native.Nat.{ℕ}
use Rattle.std.proofs.Common.{rules}
use Rattle.text_operators.proofs.Rows.{found}
use Rattle.text_operators.proofs.names.place_in.Goals as goal

pub returns : goal.returns
returns c = search (rules, found (λ (n : Bor (List ℕ)). n.now) c.args.token.now c.args.names.now)
