-- `text_rows::cells::put_row`: the nine cells copied over those of the row.
use mathlib.Core.Path.{◌≡◌, sym, ap, ◌∙◌}
use mathlib.Core.List.{◌++◌, append_assoc}
use Prim.Native.Nat.{ℕ, ◌+◌, ◌*◌, ◌≤◌}
use native.Mathlib.Omega.{arith}
use lib.ListN.{length, take, drop}
use lib.Seq.{sets-eq}
use borrow.Rule.Slice.PartMut.{Post-is}
use borrow.Author.Rules.{rules}
use Rattle.text_code.specs.RowTable.{row_cells}
use Rattle.text_rows.proofs.cells.put_row.Goals as goal

pub returns : goal.returns
returns c =
    let at = row_cells * c.args.row in
    let table = c.args.table.now in
    let behind = Post-is at (at + row_cells) table (omega arith) in
    let room : at + length c.args.cells ≤ length table = search rules in
    let nine : row_cells ≡ length c.args.cells = search rules in
    (λ i. take at table ++ (c.copy_from_slice.ensures.after i ++ behind i))
    ∙ ap (λ (n : ℕ). take at table ++ (c.args.cells ++ drop (at + n) table)) nine
    ∙ sym (append_assoc (take at table) c.args.cells (drop (at + length c.args.cells) table))
    ∙ sym (sets-eq c.args.cells table at room)
