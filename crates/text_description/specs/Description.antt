-- A description's text, whole: the description that it says, or what it is turned down for and the line.
-- Assumes nothing.
use Rattle.std.specs.Prelude.{ℕ, ◌+◌, Bool, true, false, ◌&&◌, List, [], ◌∷◌, eqb, leb, length}
use Rattle.characters.specs.Characters.{same}
use Rattle.text_fields.specs.Fields as text
use Rattle.characters.specs.Ascii.{ascii}
use Rattle.text_fields.specs.Fields.{lines}
use Rattle.characters.specs.Named.{Named, find, among}
use Rattle.text_bit_parts.specs.Refers.{width_in}
use Rattle.text_declaration.specs.declared.faults.Fault.{Fault}
use Rattle.text_declaration.specs.declared.faults.Fault.TheVariants.{Size, Header, Line, Label, Run}
use Rattle.text_declaration.specs.Rows.{Description}
use Rattle.text_limits.specs.Limits.{most_bytes}
use Rattle.text_declaration.specs.Lines.{Progress, refused, next}
use Rattle.text_targets.specs.Targets.{missing_at, none_missing, first_missing}
use Rattle.text_description.specs.Line.{read_line}

-- "The answer is the number and line."
pub data Acceptance : Type 0 where
  accepted : Description → Acceptance
  turned_down : Fault → ℕ → Acceptance

-- what a text comes to if a rule is kept; if not, it is turned down at line n
abbrev pub kept_at : ℕ → Bool → Fault → Acceptance → Acceptance
kept_at n true f x = x
kept_at n false f x = turned_down f n

-- "register RUN of width 1"
abbrev pub run_name : List ℕ
run_name = ascii "RUN"

abbrev pub has_run : List Named → Bool
has_run rs = among run_name rs && eqb (width_in rs (find run_name rs)) 1

-- "Missing `go` targets are looked for after all lines, lowest line first, then 8" at the "line after the last", which is n; line 2 stands below the header
unfoldable pub finished : List text.Line → Progress → ℕ → Acceptance
finished all p n =
    elim (first_missing 2 all) [
      | missing_at k ↦ turned_down Label k
      | none_missing ↦ kept_at n (has_run p.registers) Run (accepted (record { registers = p.registers; rows = p.rows }))
    ]

-- "Lines are taken in order", from line n on, of all the lines below the header
unfoldable pub read_lines : List text.Line → Progress → ℕ → List text.Line → Acceptance
read_lines all p n [] = finished all p n
read_lines all p n (l ∷ ls) = elim (read_line p ls l) [ refused k ↦ turned_down k n | next q ↦ read_lines all q (n + 1) ls ]

abbrev pub nothing : Progress
nothing = record { registers = []; labels = []; rows = [] }

-- the lines below the header
unfoldable pub read_below : List text.Line → Acceptance
read_below all = read_lines all nothing 2 all

-- "`rows`, TAB, `1`"
abbrev pub header : List ℕ
header = ascii "rows\t1"

-- "The first line must be exactly `rows`, TAB, `1`"; "first line, its LF aside, isn't the header; empty text included (line 1)"
unfoldable pub read_all : List text.Line → Acceptance
read_all [] = turned_down Header 1
read_all (l ∷ ls) = kept_at 1 (same l.bytes header) Header (kept_at 1 l.ended Line (read_below ls))

-- "text over 16,384 bytes (line 0)"
unfoldable pub read_text : List ℕ → Acceptance
read_text s = kept_at 0 (leb (length s) most_bytes) Size (read_all (lines s))
