-- `text_names::place_of`: entry by entry.
use mathlib.Core.Path.{sym, ap, ◌∙◌}
use mathlib.Core.List.{List}
use Prim.Native.Nat.{ℕ}
use Rattle.characters.specs.Characters.{same}
use Rattle.text_names.specs.Dictionaries.{named_by}
use Rattle.text_names.specs.declared.NamedPlace.{NamedPlace}
use Rattle.text_names.proofs.Entries.{start, here, later, found_here, found_nowhere}
use Rattle.text_names.proofs.place_of.Goals as goal

pub loop-i-init : goal.loop-i-init
loop-i-init c = start c.args.name.now c.args.text.now c.args.d

pub returns-then-is_same : goal.returns-then-is_same
returns-then-is_same c = sym (found_here c.args.name.now c.args.text.now c.args.d c.loop-i.i c.loop-i-test.true
    (c.loop-i.invariant ∙ here c.args.name.now c.args.text.now c.args.d c.loop-i.i c.loop-i-test.true
    (sym (c.is_same.ensures ∙ ap (λ (s : List ℕ). same s c.args.name.now) (c.part-found.ensures ∙ ap (λ (p : NamedPlace). (named_by c.args.text.now p).name) c.entry-it.ensures)) ∙ c.if-is_same.true)))

pub loop-i-preserved : goal.loop-i-preserved
loop-i-preserved c = c.loop-i.invariant ∙ later c.args.name.now c.args.text.now c.args.d c.loop-i.i c.loop-i-test.true
    (sym (c.is_same.ensures ∙ ap (λ (s : List ℕ). same s c.args.name.now) (c.part-found.ensures ∙ ap (λ (p : NamedPlace). (named_by c.args.text.now p).name) c.entry-it.ensures)) ∙ c.if-is_same.false)

pub returns : goal.returns
returns c = sym (found_nowhere c.args.name.now c.args.text.now c.args.d c.loop-i.i c.loop-i-test.false c.loop-i.invariant)
