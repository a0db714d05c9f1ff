-- `text_description::reader::verdict_of` is the definition, case by case.
use mathlib.Core.Path.{◌≡◌, sym, ◌∙◌}
use borrow.Author.Rules.{rules}
use Rattle.std.specs.Prelude.{None}
use Rattle.text_description.proofs.Texts.{label_missing, all_there, no_run}
use Rattle.text_description.proofs.reader.verdict_of.Goals as goal

pub returns-in-Some : goal.returns-in-Some
returns-in-Some c = label_missing c.args.text.now c.args.q c.args.n c.in-Some.line c.in-Some.is

pub returns-then-not-has_run : goal.returns-then-not-has_run
returns-then-not-has_run c = let none : c.args.q.missing ≡ None = search rules in
    no_run c.args.text.now c.args.q c.args.n none (sym c.has_run.ensures ∙ c.if-not-has_run.true)

pub returns : goal.returns
returns c = let none : c.args.q.missing ≡ None = search rules in
    all_there c.args.text.now c.args.q c.args.n none (sym c.has_run.ensures ∙ c.if-not-has_run.false)
