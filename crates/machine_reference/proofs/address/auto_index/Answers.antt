-- `machine_reference::address::auto_index`: the code's test is the definition's.
use mathlib.Core.Path.{sym, ap, ◌∙◌}
use mathlib.Core.Bool.{Bool}
use Prim.Native.Nat.{ℕ}
use lib.ListN.{get_or, set}
use borrow.Author.Tests.{eq-eqb, ne_eqb}
use Rattle.word.specs.Choice.{pick}
use Rattle.word.specs.Word.{next}
use Rattle.machine_reference.specs.Address.{indexed}
use Rattle.machine_reference.proofs.Addresses.{index_is}
use Rattle.machine_reference.proofs.address.auto_index.Goals as goal

pub returns-then-a-eq1 : goal.returns-then-a-eq1
unfolding indexed
returns-then-a-eq1 c = c.store.ensures
    ∙ ap (λ (x : ℕ). set c.args.memory.now c.args.a.number x) (c.increment.ensures ∙ ap next c.load-word.ensures)
    ∙ sym (ap (λ (t : Bool). pick t (set c.args.memory.now c.args.a.number (next (get_or c.args.memory.now c.args.a.number 0))) c.args.memory.now) (index_is c.args.a.number ∙ eq-eqb _ _ c.if-a-eq1.true))

pub returns-else-a-eq1 : goal.returns-else-a-eq1
unfolding indexed
returns-else-a-eq1 c = sym (ap (λ (t : Bool). pick t (set c.args.memory.now c.args.a.number (next (get_or c.args.memory.now c.args.a.number 0))) c.args.memory.now) (index_is c.args.a.number ∙ ne_eqb _ _ c.if-a-eq1.false))
