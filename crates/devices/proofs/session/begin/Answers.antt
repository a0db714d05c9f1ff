-- `devices::session::begin`: a byte that arrives, or none, and the rise.
use mathlib.Core.Path.{ap, ◌∙◌}
use Prim.Native.Nat.{ℕ}
use lib.Dec.{eqb}
use borrow.Author.Tests.{ltb-true}
use Rattle.laws.proofs.Joined.{and_right}
use Rattle.devices.specs.Devices.{risen}
use Rattle.devices.proofs.Starts.{with_key}
use Rattle.devices.proofs.Held.{begun_new, begun_still}
use borrow.Author.Rules.{rules}
use Rattle.devices.proofs.session.begin.Goals as goal

pub bounds-input-read : goal.bounds-input-read
bounds-input-read c = let h = ltb-true c.args.read _ (and_right (eqb c.args.c.keyboard 0) _ c.if-c-read.true) in
    search (rules, h)

pub returns-then-c-read : goal.returns-then-c-read
returns-then-c-read c = begun_new c.args.c c.rise.result c.args.input.now c.args.read c.if-c-read.true
    (c.rise.ensures ∙ ap (λ (b : ℕ). risen (with_key b 1 c.args.c)) (search rules))

pub returns : goal.returns
returns c = begun_still c.args.c c.rise-2.result c.args.input.now c.args.read c.if-c-read.false c.requires c.rise-2.ensures
