-- The lines that declare something, one by one: what each adds to what was read so far, or what it is turned down for.
-- "Lines are taken in order; within one, lower numbers first, left field first." The lines of rows are those of crate text_rows.
-- Assumes nothing.
use Rattle.std.specs.Prelude.{ℕ, ◌+◌, Bool, true, false, not, ◌&&◌, List, [], ◌∷◌, ◌++◌, eqb, leb, ltb, length, Option, Some, None}
use Rattle.word.specs.Word.{widest}
use Rattle.characters.specs.Ascii.{ascii}
use Rattle.text_fields.specs.Fields.{field, has_fields}
use Rattle.characters.specs.Named.{Named, among}
use Rattle.text_names.specs.Names.{is_name}
use Rattle.text_constants.specs.Constants.{decimal_at}
use Rattle.text_constants.specs.declared.Number.{Number}
use Rattle.text_operators.specs.OperatorNames.{is_reserved}
use Rattle.text_declaration.specs.declared.faults.Fault.{Fault}
use Rattle.text_declaration.specs.declared.faults.Fault.TheVariants.{Line, Register, Label, Limit}
use Rattle.text_declaration.specs.Rows.{Row}
use Rattle.text_limits.specs.Limits.{most_registers, most_labels}

-- the first words
abbrev pub reg_word : List ℕ
reg_word = ascii "reg"

abbrev pub do_word : List ℕ
do_word = ascii "do"

abbrev pub go_word : List ℕ
go_word = ascii "go"

abbrev pub at_word : List ℕ
at_word = ascii "at"

-- what was read so far
pub record Progress : Type 0 where
  pub registers : List Named
  pub labels : List Named
  pub rows : List Row

-- with one register, label or row more
abbrev pub with_register : Progress → Named → Progress
with_register p e = record { registers = p.registers ++ (e ∷ []); labels = p.labels; rows = p.rows }

abbrev pub with_label : Progress → Named → Progress
with_label p e = record { registers = p.registers; labels = p.labels ++ (e ∷ []); rows = p.rows }

abbrev pub with_row : Progress → Row → Progress
with_row p r = record { registers = p.registers; labels = p.labels; rows = p.rows ++ (r ∷ []) }

-- what a line comes to: a fault, or more of the description
pub data Step : Type 0 where
  refused : Fault → Step
  next : Progress → Step

-- what a line comes to if a rule is kept; if not, it is refused
abbrev pub kept : Bool → Fault → Step → Step
kept true f x = x
kept false f x = refused f

-- "width (1 to 16, no leading zero)", which is the whole field
abbrev pub is_width : List ℕ → Option Number → Bool
is_width s (Some d) = leb 1 d.value && leb d.value widest && eqb d.place (length s)
is_width s None = false

abbrev pub width_of : Option Number → ℕ
width_of (Some d) = d.value
width_of None = 0

-- "a name that is malformed, reserved or repeated"
abbrev pub is_new_name : List Named → List ℕ → Bool
is_new_name rs s = is_name s && not (is_reserved s) && not (among s rs)

-- ".. or a bad width"; "the 17th register"
unfoldable pub add_register : Progress → List ℕ → List ℕ → Step
add_register p s w =
    kept (is_new_name p.registers s && is_width w (decimal_at w 0)) Register
    (kept (ltb (length p.registers) most_registers) Limit (next (with_register p (record { name = s; number = width_of (decimal_at w 0) }))))

-- whether all lines so far are `reg` lines: each of the others brings a label or a row
abbrev pub unbegun : Progress → Bool
unbegun p = eqb (length p.labels + length p.rows) 0

-- "`reg`, name, width"; "`reg` after another kind"
unfoldable pub reg_line : Progress → List ℕ → Step
reg_line p s = kept (has_fields 3 s && unbegun p) Line (add_register p (field 1 s) (field 2 s))

-- "an `at` label malformed, repeated or equal to a register name"
abbrev pub is_new_label : List Named → List Named → List ℕ → Bool
is_new_label ls rs s = is_name s && not (among s ls) && not (among s rs)

-- "33rd label". A label has no number of its own: 0.
unfoldable pub add_label : Progress → List ℕ → Step
add_label p s =
    kept (is_new_label p.labels p.registers s) Label
    (kept (ltb (length p.labels) most_labels) Limit (next (with_label p (record { name = s; number = 0 }))))

-- "`at`, label"
unfoldable pub at_line : Progress → List ℕ → Step
at_line p s = kept (has_fields 2 s) Line (add_label p (field 1 s))
