-- One line of a description's text: whether it is fit, and what it comes to by its first word.
-- Assumes nothing.
use Rattle.std.specs.Prelude.{ℕ, Bool, ◌&&◌, List, eqb, leb, length}
use Rattle.word.specs.Choice.{pick}
use Rattle.characters.specs.Characters.{same, run}
use Rattle.characters.specs.declared.Class.TheVariants.{Printable}
use Rattle.text_fields.specs.Fields as text
use Rattle.text_fields.specs.Fields.{field}
use Rattle.text_declaration.specs.declared.faults.Fault.TheVariants.{Line}
use Rattle.text_limits.specs.Limits.{longest_line}
use Rattle.text_declaration.specs.Lines.{reg_word, do_word, go_word, at_word, Progress, Step, kept, reg_line, at_line}
use Rattle.text_rows.specs.Lines.{go_line, do_line}

-- "a line of more than 200 bytes, its LF not counted; no LF after the last line; a byte other than 32 to 126 or TAB"
abbrev pub is_fit : text.Line → Bool
is_fit l = l.ended && leb (length l.bytes) longest_line && eqb (run Printable l.bytes) (length l.bytes)

-- a line's bytes by its first word, above the lines below it
unfoldable pub by_word : Progress → List text.Line → List ℕ → List ℕ → Step
by_word p below s word =
    pick (same word reg_word) (reg_line p s)
    (pick (same word do_word) (do_line p s)
    (pick (same word go_word) (go_line p below s) (kept (same word at_word) Line (at_line p s))))

-- a line, above the lines below it
unfoldable pub read_line : Progress → List text.Line → text.Line → Step
read_line p below l = kept (is_fit l) Line (by_word p below l.bytes (field 0 l.bytes))
