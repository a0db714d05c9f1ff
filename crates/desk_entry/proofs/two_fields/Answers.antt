-- `desk_entry::two_fields`: the budget, the input, a register by its name, else a word.
use mathlib.Core.Path.{sym, ◌∙◌}
use Rattle.characters.proofs.Searches.{found_at, found_within, found_none}
use Rattle.desk_registers.specs.Registers.{desk_registers}
use Rattle.desk_entry.specs.Lines.{said}
use Rattle.desk_entry.proofs.two_fields.Goals as goal

pub register_entry-requires : goal.register_entry-requires
register_entry-requires c = found_within c.args.name.now desk_registers (sym c.place_of.ensures ∙ c.in-Some.is)

pub returns-then-is_same : goal.returns-then-is_same
unfolding said
returns-then-is_same c = rw (sym c.is_same.ensures ∙ c.if-is_same.true, said) c.budget_entry.ensures

pub returns-then-is_same-2 : goal.returns-then-is_same-2
unfolding said
returns-then-is_same-2 c = let other = sym c.is_same.ensures ∙ c.if-is_same.false in
    rw (other, sym c.is_same-2.ensures ∙ c.if-is_same-2.true, said) c.input_entry.ensures

pub returns-in-Some : goal.returns-in-Some
unfolding said
returns-in-Some c = let other = sym c.is_same.ensures ∙ c.if-is_same.false in
    let p = found_at c.args.name.now desk_registers (sym c.place_of.ensures ∙ c.in-Some.is) in
    rw (other, sym c.is_same-2.ensures ∙ c.if-is_same-2.false, p.0, said) (rw p.1 c.register_entry.ensures)

pub returns-in-None : goal.returns-in-None
unfolding said
returns-in-None c = let other = sym c.is_same.ensures ∙ c.if-is_same.false in
    rw (other, sym c.is_same-2.ensures ∙ c.if-is_same-2.false, found_none c.args.name.now desk_registers (sym c.place_of.ensures ∙ c.in-None.is), said)
    c.word_entry.ensures
