-- `text_description::line::read_line`: by the first word.
use mathlib.Core.Path.{refl, sym, ap, ◌∙◌}
use mathlib.Core.List.{List}
use Prim.Native.Nat.{ℕ}
use native.Mathlib.Omega.{arith}
use lib.ListN.{length}
use Rattle.characters.specs.Characters.{same}
use Rattle.characters.specs.Ascii.{line_feed}
use Rattle.text_declaration.specs.Lines.{reg_word, at_word}
use Rattle.text_declaration.proofs.Fields.{after_le}
use Rattle.text_rows.proofs.RowLines.{takes_plain}
use Rattle.text_description.proofs.FirstWords.{first_bytes, fit_as, line_stands, line_fits, fit_length, comes_unfit, comes_reg, comes_do, comes_go, comes_at, comes_unknown}
use Rattle.text_description.proofs.line.read_line.Goals as goal

pub returns-then-not-is_fit : goal.returns-then-not-is_fit
returns-then-not-is_fit c = let unfit = fit_as c.args.line c.requires.stands ∙ sym c.is_fit.ensures ∙ c.if-not-is_fit.true in
    comes_unfit c.args.text.now c.args.q c.args.n c.args.line.rest.now c.args.line.bytes.now (first_bytes c.args.line c.requires.stands) _ _ _ _ _
    unfit refl

pub overflow_sub-text : goal.overflow_sub-text
overflow_sub-text c = c.requires.is_rest.fits

pub reg_line-requires : goal.reg_line-requires
reg_line-requires c = let stands = line_stands c.args.text.now c.args.line.rest.now _ c.requires.is_rest (first_bytes c.args.line c.requires.stands) in
    let fits = line_fits c.args.text.now c.args.line.rest.now _ c.requires.is_rest c.requires.text_short (first_bytes c.args.line c.requires.stands) in
    let word = ap (λ (l : List ℕ). same l reg_word) (sym c.field_of-word.ensures) ∙ sym c.is_same.ensures ∙ c.if-is_same.true in
    record { within = c.requires.within; stands = stands; fits = fits; is_reg = word }

pub returns-then-is_same : goal.returns-then-is_same
returns-then-is_same c = let fit = fit_as c.args.line c.requires.stands ∙ sym c.is_fit.ensures ∙ c.if-not-is_fit.false in
    comes_reg c.args.text.now c.args.q c.args.n c.args.line.rest.now c.args.line.bytes.now (first_bytes c.args.line c.requires.stands) c.reg_line.result _ _ _ _
    fit c.field_of-word.result.now c.field_of-word.ensures
    (sym c.is_same.ensures ∙ c.if-is_same.true) (takes_plain _ _ c.args.q _ c.reg_line.ensures)

pub do_line-requires : goal.do_line-requires
do_line-requires c = let fit = fit_as c.args.line c.requires.stands ∙ sym c.is_fit.ensures ∙ c.if-not-is_fit.false in
    record { within = c.requires.within; line_short = fit_length c.args.line.rest.now c.args.line.bytes.now fit }

pub returns-then-is_same-2 : goal.returns-then-is_same-2
returns-then-is_same-2 c = let fit = fit_as c.args.line c.requires.stands ∙ sym c.is_fit.ensures ∙ c.if-not-is_fit.false in
    comes_do c.args.text.now c.args.q c.args.n c.args.line.rest.now c.args.line.bytes.now (first_bytes c.args.line c.requires.stands) c.do_line.result _ _ _ _
    fit c.field_of-word.result.now c.field_of-word.ensures
    (sym c.is_same.ensures ∙ c.if-is_same.false) (sym c.is_same-2.ensures ∙ c.if-is_same-2.true) c.do_line.ensures

pub go_line-requires : goal.go_line-requires
go_line-requires c = let fit = fit_as c.args.line c.requires.stands ∙ sym c.is_fit.ensures ∙ c.if-not-is_fit.false in
    let short = fit_length c.args.line.rest.now c.args.line.bytes.now fit in
    record { within = c.requires.within; line_short = short; short = omega (arith, c.requires.text_short, c.requires.is_rest.fits, ap length c.requires.stands.below_is, after_le line_feed c.args.line.rest.now) }

pub returns-then-is_same-3 : goal.returns-then-is_same-3
returns-then-is_same-3 c = let fit = fit_as c.args.line c.requires.stands ∙ sym c.is_fit.ensures ∙ c.if-not-is_fit.false in
    comes_go c.args.text.now c.args.q c.args.n c.args.line.rest.now c.args.line.bytes.now (first_bytes c.args.line c.requires.stands) c.go_line.result _ _ _ _
    fit c.field_of-word.result.now c.field_of-word.ensures
    (sym c.is_same.ensures ∙ c.if-is_same.false) (sym c.is_same-2.ensures ∙ c.if-is_same-2.false) (sym c.is_same-3.ensures ∙ c.if-is_same-3.true)
    c.args.line.below.now c.requires.stands.below_is c.go_line.ensures

pub overflow_sub-text-then-is_same-4 : goal.overflow_sub-text-then-is_same-4
overflow_sub-text-then-is_same-4 c = c.requires.is_rest.fits

pub at_line-requires : goal.at_line-requires
at_line-requires c = let stands = line_stands c.args.text.now c.args.line.rest.now _ c.requires.is_rest (first_bytes c.args.line c.requires.stands) in
    let fits = line_fits c.args.text.now c.args.line.rest.now _ c.requires.is_rest c.requires.text_short (first_bytes c.args.line c.requires.stands) in
    let word = ap (λ (l : List ℕ). same l at_word) (sym c.field_of-word.ensures) ∙ sym c.is_same-4.ensures ∙ c.if-is_same-4.true in
    record { within = c.requires.within; stands = stands; fits = fits; is_at = word }

pub returns-then-is_same-4 : goal.returns-then-is_same-4
returns-then-is_same-4 c = let fit = fit_as c.args.line c.requires.stands ∙ sym c.is_fit.ensures ∙ c.if-not-is_fit.false in
    comes_at c.args.text.now c.args.q c.args.n c.args.line.rest.now c.args.line.bytes.now (first_bytes c.args.line c.requires.stands) c.at_line.result _ _ _ _
    fit c.field_of-word.result.now c.field_of-word.ensures
    (sym c.is_same.ensures ∙ c.if-is_same.false) (sym c.is_same-2.ensures ∙ c.if-is_same-2.false) (sym c.is_same-3.ensures ∙ c.if-is_same-3.false)
    (sym c.is_same-4.ensures ∙ c.if-is_same-4.true) (takes_plain _ _ c.args.q _ c.at_line.ensures)

pub returns : goal.returns
returns c = let fit = fit_as c.args.line c.requires.stands ∙ sym c.is_fit.ensures ∙ c.if-not-is_fit.false in
    comes_unknown c.args.text.now c.args.q c.args.n c.args.line.rest.now c.args.line.bytes.now (first_bytes c.args.line c.requires.stands) _ _ _ _ _
    fit c.field_of-word.result.now c.field_of-word.ensures
    (sym c.is_same.ensures ∙ c.if-is_same.false) (sym c.is_same-2.ensures ∙ c.if-is_same-2.false) (sym c.is_same-3.ensures ∙ c.if-is_same-3.false)
    (sym c.is_same-4.ensures ∙ c.if-is_same-4.false) refl
