-- The row that stands below a label is the row that its `go` continues with: so of every row of each shipped description.
-- Assumes nothing.
use mathlib.Core.Path.{◌≡◌, refl, sym, ap, ◌∙◌}
use mathlib.Core.List.{List, [], ◌∷◌, map}
use Prim.Native.Nat.{ℕ, suc, ◌+◌}
use Rattle.word.specs.Choice.{pick}
use Rattle.characters.specs.Characters.{run, same}
use Rattle.text_fields.specs.Fields.{lines, field}
use Rattle.text_declaration.specs.Rows.{Row, does, goes, Description}
use Rattle.text_targets.specs.Targets.{passes}
use Rattle.shipped_rows.specs.Variant.{Variant, plain, devices}
use Rattle.shipped_rows.specs.Text.{shipped_text}
use Rattle.shipped_rows.specs.Shipped.{shipped}
use Rattle.shipped_rows.proofs.Tree.{tree}
use Rattle.shipped_rows.proofs.Accepted.{shipped_is}
use Rattle.desk_run_lines.specs.Rows.{row_texts, is_go, label_of, row_below}

-- for rows from number k on, the row that each continues with where its condition isn't 0, by the rows that it passes over; 0 for a `do`
abbrev continues : ℕ → List Row → List ℕ
continues k [] = []
continues k (does c d e ∷ rs) = 0 ∷ continues (suc k) rs
continues k (goes c n ∷ rs) = (k + 1 + n) ∷ continues (suc k) rs

-- the same by the lines and their labels
abbrev named : List ℕ → List ℕ → ℕ
named text line = pick (is_go line) (row_below (label_of line) text) 0

in_tree : (v : Variant) → map (named (shipped_text v)) (row_texts (lines (shipped_text v))) ≡ continues 1 (tree v).rows
unfolding run same lines field passes row_texts shipped_text
in_tree plain = refl
in_tree devices = refl

pub labels_lead : (v : Variant) → map (named (shipped_text v)) (row_texts (lines (shipped_text v))) ≡ continues 1 (shipped v).rows
labels_lead v = in_tree v ∙ ap (λ (d : Description). continues 1 d.rows) (sym (shipped_is v))
