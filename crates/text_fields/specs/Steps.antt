-- What a step through a text's lines gives: the first line of what is left, and then what is below it.
-- Assumes nothing.
use Rattle.std.specs.Prelude.{◌≡◌, ◌<◌, ◌≤◌, length, Option, Some, None}
use Rattle.characters.specs.Ascii.{line_feed}
use Rattle.text_fields.specs.Fields.{after}
use Rattle.text_fields.specs.Rests.{first_line}
use Rattle.text_fields.specs.declared.by_line.Line.{Line}
use Rattle.text_fields.specs.declared.by_line.Lines.{Lines}

-- a line is the first of the text from it on, above the text below it
pub record Stands (l : Line) : Type 0 where
  pub line_is : record { bytes = l.bytes.now; ended = l.ended } ≡ first_line l.rest.now
  pub below_is : l.below.now ≡ after line_feed l.rest.now

-- one line more: the first of what was left, above what is left then
pub record Gives (s : Lines) (l : Line) (t : Lines) : Type 0 where
  pub some : 0 < length s.rest.now
  pub rest_is : l.rest.now ≡ s.rest.now
  pub line_is : record { bytes = l.bytes.now; ended = l.ended } ≡ first_line s.rest.now
  pub stands : Stands l
  pub left_is : t.rest.now ≡ after line_feed s.rest.now

abbrev pub Steps : Lines → Option Line → Lines → Type 0
Steps s None t = (length s.rest.now ≤ 0) × (length t.rest.now ≤ 0)
Steps s (Some l) t = Gives s l t
