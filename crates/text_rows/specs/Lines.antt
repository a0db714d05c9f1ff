-- The lines of rows: what a `do` or a `go` line adds to what was read so far, or what it is turned down for.
-- "within one, lower numbers first, left field first"
-- Assumes nothing.
use Rattle.std.specs.Prelude.{ℕ, ◌+◌, ◌&&◌, List, leb, ltb, length, Option, unwrap_or}
use Rattle.text_fields.specs.Fields as text
use Rattle.text_fields.specs.Fields.{field, has_fields}
use Rattle.text_names.specs.Names.{is_name}
use Rattle.text_code.specs.Tree.{Reading, read, outside, DestinationReading, leads, astray}
use Rattle.text_expression.specs.Expression.{expression, destination}
use Rattle.text_declaration.specs.declared.faults.Fault.TheVariants.{Line, Expression, Label, Limit}
use Rattle.text_declaration.specs.Rows.{Row, does, goes, row_pieces, pieces_of}
use Rattle.text_limits.specs.Limits.{most_rows, all_pieces}
use Rattle.text_declaration.specs.Lines.{Progress, with_row, Step, refused, next, kept}
use Rattle.text_targets.specs.Targets.{passes}

-- "the .. 129th row .. or 1,025th piece"
unfoldable pub add_row : Progress → Row → Step
add_row p r = kept (ltb (length p.rows) most_rows && leb (pieces_of p.rows + row_pieces r) all_pieces) Limit (next (with_row p r))

-- "an expression or destination outside the rules, unknown names included"
unfoldable pub add_do : Progress → Reading → DestinationReading → Reading → Step
add_do p (read c x) (leads d) (read e y) = add_row p (does c d e)
add_do p (read c x) (leads d) outside = refused Expression
add_do p (read c x) astray e = refused Expression
add_do p outside d e = refused Expression

-- "`do`, condition, destination, expression"
unfoldable pub do_line : Progress → List ℕ → Step
do_line p s =
    kept (has_fields 4 s) Line
    (add_do p (expression p.registers (field 1 s)) (destination p.registers (field 2 s)) (expression p.registers (field 3 s)))

-- the rows passed over. A text in which a label is missing is turned down after all lines, whatever stands here for it.
abbrev pub rows_passed : Option ℕ → ℕ
rows_passed target = unwrap_or target 0

-- "a malformed `go` label"
unfoldable pub add_go : Progress → List ℕ → Option ℕ → Reading → Step
add_go p label t (read c x) = kept (is_name label) Label (add_row p (goes c (rows_passed t)))
add_go p label t outside = refused Expression

-- "`go`, condition, label", above the lines below it
unfoldable pub go_line : Progress → List text.Line → List ℕ → Step
go_line p below s = kept (has_fields 3 s) Line (add_go p (field 2 s) (passes (field 2 s) below) (expression p.registers (field 1 s)))
