-- The scanner: what is kept of a text while it is read byte by byte, whatever its lines say. A reader need not believe these definitions: the law `by_lines`
-- shows that they come to what Input says by lines.
-- Assumes nothing.
use Rattle.std.specs.Prelude.{ℕ, Bool, true, false, List, [], ◌∷◌, ◌++◌, length, take, ◌==◌, nat_lt, Option, Some, None, is_some}
use Rattle.std.specs.Option.{option_or}
use Rattle.word.specs.Choice.{on, pick}
use Rattle.characters.specs.Ascii.{line_feed}
use Rattle.desk_image.specs.Pass.{pass, Left, next_line}
use Rattle.desk_image.specs.Input.{is_word_line, stored, clear}
use Rattle.desk_image.specs.declared.scan.Scanner.{Scanner}
use Rattle.desk_image.specs.declared.Words.{Words}

-- how lines are read: the most bytes that a fit one has, which ones fit, what a fit one makes of what was kept before it, and what is kept before the first
pub record Reading (A : Type 0) : Type 0 where
  pub most : ℕ
  pub fits : List ℕ → Bool
  pub enter : List ℕ → A → A
  pub start : A

-- the line's number, the bytes read of it, the first unfit line if there is one, and what the lines before it have made
pub record Scan (A : Type 0) : Type 0 where
  pub line : ℕ
  pub part : List ℕ
  pub refused : Option ℕ
  pub made : A

-- with one byte more of the line, with the line refused, and at the next line
abbrev pub longer : {A : Type 0} → Scan A → ℕ → Scan A
longer s b = record { line = s.line; part = s.part ++ b ∷ []; refused = s.refused; made = s.made }

abbrev pub refusing : {A : Type 0} → Scan A → Scan A
refusing s = record { line = s.line; part = s.part; refused = Some s.line; made = s.made }

abbrev pub at_next_line : {A : Type 0} → A → Scan A → Scan A
at_next_line a s = record { line = next_line s.line; part = []; refused = s.refused; made = a }

-- at the line's LF
unfoldable pub ended : {A : Type 0} → Reading A → Scan A → Scan A
ended r s = elim (r.fits s.part) [ true ↦ at_next_line (r.enter s.part s.made) s | false ↦ refusing s ]

-- after a refused line nothing is read any more; too long a line is refused
unfoldable pub scan_byte : {A : Type 0} → Reading A → Scan A → ℕ → Scan A
scan_byte r s b =
    elim (is_some s.refused) [
      | true ↦ s
      | false ↦
          elim (b == line_feed) [
            | true ↦ ended r s
            | false ↦ elim (nat_lt (length s.part) r.most) [ true ↦ longer s b | false ↦ refusing s ]
          ]
    ]

-- before the first byte
abbrev pub begun : {A : Type 0} → Reading A → Scan A
begun r = record { line = 1; part = []; refused = None; made = r.start }

-- after a text
abbrev pub scan_of : {A : Type 0} → Reading A → List ℕ → Scan A
scan_of r text = pass (scan_byte r) (begun r) text

-- after some text
abbrev pub Reached : {A : Type 0} → Reading A → Scan A → Type 0
Reached r s = Left (scan_byte r) (begun r) s

-- the first unfit line, where the text ends here: a line that has begun lacks its LF
abbrev pub unfit_line : {A : Type 0} → Scan A → Option ℕ
unfit_line s = option_or s.refused (pick (on (length s.part)) (Some s.line) None)

-- what a scanner keeps, by what its lines have made with the memory
abbrev pub kept_by : {L A : Type 0} {N : ℕ} → (L → List ℕ → A) → Scanner L N → List ℕ → Scan A
kept_by made s memory = record { line = s.line; part = take s.size s.bytes; refused = s.refused; made = made s.made memory }

-- ---- the image's lines

-- no fit line has more bytes: the law `long_unfit`
abbrev pub line_bytes : ℕ
line_bytes = 9

abbrev pub words : Reading (List ℕ)
words = record { most = line_bytes; fits = is_word_line; enter = stored; start = clear }

-- what a scanner keeps, and the memory that it loads
abbrev pub kept : Scanner Words line_bytes → List ℕ → Scan (List ℕ)
kept s memory = kept_by (λ w m. m) s memory
