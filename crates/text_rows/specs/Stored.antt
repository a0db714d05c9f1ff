-- What the lent tables hold of the rows, and what reading a row promises of them.
-- Assumes nothing.
use Rattle.std.specs.Prelude.{◌≡◌, Bool, true, false, ◌&&◌, List, ℕ, ◌+◌, ◌-◌, ◌*◌, ◌≤◌, ◌<◌, leb, ltb, length, Option, Some, None, MatchOption, Result, Ok, Err, IfOk}
use Rattle.std.proofs.lemmas.List.Edits.{sets}
use Rattle.word.specs.Choice.{pick}
use Rattle.text_fields.specs.Fields as text
use Rattle.text_fields.specs.Fields.{field}
use Rattle.characters.specs.Named.{Named}
use Rattle.text_names.specs.Names.{is_name}
use Rattle.text_code.specs.Tree.{Expr, Destination}
use Rattle.text_code.specs.Readings.{Reading, read, outside, DestinationReading, leads, astray}
use Rattle.text_expression.specs.Expression.{expression, destination}
use Rattle.text_expression.specs.declared.Place.{Place}
use Rattle.text_expression.specs.declared.Place.TheVariants.{Register, Bits, Word}
use Rattle.text_code.specs.Met.{Held, part}
use Rattle.text_code.specs.declared.Cursor.{Cursor}
use Rattle.text_declaration.specs.declared.faults.Fault.{Fault}
use Rattle.text_declaration.specs.declared.faults.Fault.TheVariants.{Limit, Label, Expression}
use Rattle.text_declaration.specs.declared.lines.Progress as progress
use Rattle.text_declaration.specs.Rows.{Row, does, row_pieces, pieces_of, address_pieces}
use Rattle.text_limits.specs.Limits.{most_rows, all_pieces}
use Rattle.text_declaration.specs.Lines.{Progress, Step, refused}
use Rattle.text_declaration.specs.Stored.{progress_of, step_of, Within}
use Rattle.text_targets.specs.Targets.{passes, is_missing}
use Rattle.text_rows.specs.declared.cells.Aim.{Aim}
use Rattle.text_rows.specs.declared.actions.RowRead.{RowRead}
use Rattle.text_rows.specs.Lines.{add_row, rows_passed}
use Rattle.text_code.specs.RowTable.{row_cells, register_row, part_row, memory_row}
use Rattle.text_rows.specs.Cells.{go_cells, address_code, row_code, code, kind_of, register_of, right_of, size_of, cells_of, cells}

-- the code's numbers count the rows, and the lent tables hold their words and are else as they came
pub record Tables (rs : List Row) (q : progress.Progress) (code₀ code₁ table₀ table₁ : List ℕ) : Type 0 where
  pub rows_are : q.rows ≡ length rs
  pub pieces_are : q.pieces ≡ pieces_of rs
  pub words_are : 4 * q.words ≡ length (code rs)
  pub code_is : code₁ ≡ sets code₀ 0 (code rs)
  pub table_is : table₁ ≡ sets table₀ 0 (cells 0 rs)

-- what a line comes to, with the rows behind it
pub record Comes (text : List ℕ) (x : Step) (r : Result progress.Progress Fault) (code₀ code₁ table₀ table₁ : List ℕ) : Type 0 where
  pub rows : List Row
  pub is : x ≡ step_of text r rows
  pub holds : IfOk r (λ p. Tables rows p code₀ code₁ table₀ table₁)

-- a line, whatever the rows before it are, and the first `go` without its label that the code then holds
pub record Takes (text : List ℕ) (f : Progress → Step) (gone : Option ℕ) (q : progress.Progress) (r : Result progress.Progress Fault) (code₁ code₂ table₁ table₂ : List ℕ) : Type 0 where
  pub comes : (rs : List Row) (code₀ table₀ : List ℕ) → Tables rs q code₀ code₁ table₀ table₁
      → Comes text (f (progress_of text q rs)) r code₀ code₂ table₀ table₂
  pub missing_is : IfOk r (λ p. p.missing ≡ gone)
  pub within : IfOk r (λ p. Within p)

-- the line of the first `go` without its label, as the code holds it: line n, if its label is missing and none was before it
abbrev pub first_gone : Bool → ℕ → Option ℕ → Option ℕ
first_gone true n (Some before) = Some before
first_gone true n None = Some n
first_gone false n before = before

-- whether there is room for a row more, and for its pieces
abbrev pub has_room : progress.Progress → Cursor → Bool
has_room q end = ltb q.rows most_rows && leb end.pieces all_pieces

abbrev pub one_more : progress.Progress → Cursor → Option ℕ → progress.Progress
one_more q end gone =
    record {
      registers = q.registers;
      labels = q.labels;
      rows = q.rows + 1;
      words = end.words;
      pieces = end.pieces;
      missing = gone;
    }

-- a row's cells put behind those of the rows before it, if there is room
pub record Put (q : progress.Progress) (cs : List ℕ) (end : Cursor) (gone : Option ℕ) (r : Result progress.Progress Fault) (before after : List ℕ) : Type 0 where
  pub is : r ≡ pick (has_room q end) (Ok (one_more q end gone)) (Err Limit)
  pub table_is : after ≡ pick (has_room q end) (sets before (row_cells * q.rows) cs) before

-- a `go` whose condition was read: its row, if its label is a name
pub record Jumps (q : progress.Progress) (n : ℕ) (label : List ℕ) (below : List text.Line) (end : Cursor) (r : Result progress.Progress Fault) (before after : List ℕ) : Type 0 where
  pub named : is_name label ≡ true
      → Put q (go_cells q.words end.words (rows_passed (passes label below))) end (first_gone (is_missing (passes label below)) n q.missing) r before after
  pub nameless : is_name label ≡ false → r ≡ Err Label

-- the bits of a part stand in their order, within the register
abbrev pub InOrder : Place → Type 0
InOrder (Register r w) = Unit {0}
InOrder (Bits r w a b) = (a ≤ b) × (b < w)
InOrder (Word c) = Unit {0}

-- the cells of a place
abbrev pub aim_of : Place → Cursor → Aim
aim_of (Register r w) from = record { kind = register_row; register = r; right = 0; size = w; end = from }
aim_of (Bits r w a b) from = record { kind = part_row; register = r; right = w - 1 - b; size = b - a + 1; end = from }
aim_of (Word c) from = record { kind = memory_row; register = 0; right = 0; size = 0; end = c }

-- a destination that was read: its cells, and its address's words and pieces behind those before it
pub record Aiming (x : Destination) (s : List ℕ) (a : Aim) (from : Cursor) (before after : List ℕ) : Type 0 where
  pub kind_is : a.kind ≡ kind_of x
  pub register_is : a.register ≡ register_of x
  pub right_is : a.right ≡ right_of x
  pub size_is : a.size ≡ size_of x
  pub pieces_are : a.end.pieces ≡ from.pieces + address_pieces x
  pub words_are : 4 * a.end.words ≡ 4 * from.words + length (address_code x)
  pub code_is : after ≡ sets before (4 * from.words) (address_code x)
  pub words_few : a.end.words ≤ from.words + length s
  pub pieces_few : a.end.pieces ≤ from.pieces + length s

pub record Reached (x : DestinationReading) (s : List ℕ) (a : Aim) (from : Cursor) (before after : List ℕ) : Type 0 where
  pub to : Destination
  pub is : x ≡ leads to
  pub aiming : Aiming to s a from before after

abbrev pub Aimed : DestinationReading → List ℕ → Option Aim → Cursor → List ℕ → List ℕ → Type 0
Aimed x s r from before after = MatchOption r (x ≡ astray) (λ a. Reached x s a from before after)

-- the row that the three parts of a `do` make, or none
pub data RowReading : Type 0 where
  formed : Row → RowReading
  unformed : RowReading

unfoldable pub do_row : Reading → DestinationReading → Reading → RowReading
do_row (read c x) (leads d) (read e y) = formed (does c d e)
do_row (read c x) (leads d) outside = unformed
do_row (read c x) astray e = unformed
do_row outside d e = unformed

abbrev pub take_row : Progress → RowReading → Step
take_row p (formed r) = add_row p r
take_row p unformed = refused Expression

-- a row that was read: its cells, and its words and pieces behind those before it
pub record Forming (row : Row) (cs : List ℕ) (end from : Cursor) (before after : List ℕ) : Type 0 where
  pub cells_are : cs ≡ cells_of (4 * from.words) row
  pub pieces_are : end.pieces ≡ from.pieces + row_pieces row
  pub words_are : 4 * end.words ≡ 4 * from.words + length (row_code row)
  pub code_is : after ≡ sets before (4 * from.words) (row_code row)

pub record HasRow (x : RowReading) (r : RowRead) (from : Cursor) (before after : List ℕ) : Type 0 where
  pub row : Row
  pub is : x ≡ formed row
  pub forms : Forming row r.cells r.end from before after

-- the row of a `do` line
abbrev pub Rows : List Named → List ℕ → Cursor → Option RowRead → List ℕ → List ℕ → Type 0
Rows rs s from r before after =
    MatchOption r
    (do_row (expression rs (field 1 s)) (destination rs (field 2 s)) (expression rs (field 3 s)) ≡ unformed)
    (λ w. HasRow (do_row (expression rs (field 1 s)) (destination rs (field 2 s)) (expression rs (field 3 s))) w from before after)

-- the same behind a condition that was read, whatever that is
abbrev pub Acts : List Named → List ℕ → ℕ → Cursor → Option RowRead → List ℕ → List ℕ → Type 0
Acts rs s start condition r now after =
    MatchOption r
    ((c : Expr) (x : ℕ) → do_row (read c x) (destination rs (field 2 s)) (expression rs (field 3 s)) ≡ unformed)
    (λ row. (c : Expr) (x w : ℕ) (from : Cursor) (before : List ℕ) → from.words ≡ start → Held c x (part condition w) from before now
    → HasRow (do_row (read c x) (destination rs (field 2 s)) (expression rs (field 3 s))) row from before after)
