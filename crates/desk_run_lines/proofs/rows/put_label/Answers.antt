-- `desk_run_lines::rows::put_label`: a `go` has a line, a `do` none.
use Rattle.std.proofs.Common.{arith, refl, sym, ap, ◌≡◌, ◌∙◌, ◌++◌, length, append-nil, List, ℕ}
use Rattle.characters.specs.Characters.{same}
use Rattle.text_declaration.specs.Lines.{go_word}
use Rattle.desk_run_lines.specs.Rows.{row_below, at_line, label_line}
use Rattle.desk_run_lines.proofs.RowTexts.{go_label, no_go}
use Rattle.desk_run_lines.proofs.rows.put_label.Goals as goal

pub put_at-requires : goal.put_at-requires
put_at-requires c =
    let go = sym (c.is_same.ensures ∙ ap (λ f. same f go_word) c.field_of.ensures) ∙ c.if-is_same.true in
    let told : label_line c.args.text.now c.args.line.now ≡ at_line c.field_of-label.result.now c.row_below-row.result =
    go_label c.args.text.now c.args.line.now go ∙ ap (λ l. at_line l (row_below l c.args.text.now)) (sym c.field_of-label.ensures) ∙ ap (at_line c.field_of-label.result.now) (sym c.row_below-row.ensures)
    in
    omega (arith, ap length told, c.requires.room)

pub returns-then-is_same : goal.returns-then-is_same
returns-then-is_same c =
    let go = sym (c.is_same.ensures ∙ ap (λ f. same f go_word) c.field_of.ensures) ∙ c.if-is_same.true in
    let told : label_line c.args.text.now c.args.line.now ≡ at_line c.field_of-label.result.now c.row_below-row.result =
    go_label c.args.text.now c.args.line.now go ∙ ap (λ l. at_line l (row_below l c.args.text.now)) (sym c.field_of-label.ensures) ∙ ap (at_line c.field_of-label.result.now) (sym c.row_below-row.ensures)
    in
    c.put_at.ensures ∙ ap (λ (l : List ℕ). c.args.draft.now ++ l) (sym told)

pub returns-else-is_same : goal.returns-else-is_same
returns-else-is_same c =
    let go = sym (c.is_same.ensures ∙ ap (λ f. same f go_word) c.field_of.ensures) ∙ c.if-is_same.false in
    simp (no_go c.args.text.now c.args.line.now go, append-nil) refl
