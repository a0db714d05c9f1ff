-- The rows of a text, passed line by line; and how long the shipped ones are.
-- Assumes nothing.
use mathlib.Core.Path.{◌≡◌, refl, sym, ap, ◌∙◌}
use mathlib.Core.Bool.{Bool, true, false, ◌&&◌, false≢true}
use mathlib.Core.List.{List, [], ◌∷◌, ◌++◌, append-nil, append_assoc}
use Prim.Native.Nat.{ℕ, zero, suc, ◌+◌, ◌-◌, ◌≤◌, ◌<◌}
use native.Mathlib.Numerals.{sub-one, add-one}
use native.Mathlib.Omega.{arith}
use lib.Dec.{eqb, leb, lit≤}
use lib.ListN.{length, get_or, take, length-append}
use lib.Seq.{take-suc}
use borrow.Author.Tests.{leb-true}
use Rattle.word.specs.Choice.{pick}
use Rattle.page.specs.Text.{decimal_in, decimal}
use Rattle.page.proofs.Numbers.{decimal_length}
use Rattle.characters.specs.Characters.{run, same}
use Rattle.characters.specs.Ascii.{ascii, tab, line_feed}
use Rattle.text_fields.specs.Fields.{before, after, Line, lines, field}
use Rattle.text_fields.specs.Rests.{first_line}
use Rattle.text_fields.proofs.Lines.{first_line_lem}
use Rattle.laws.proofs.Joined.{and_left, and_right}
use Rattle.text_limits.specs.Limits.{most_bytes}
use Rattle.shipped_rows.specs.Variant.{Variant, plain, devices}
use Rattle.shipped_rows.specs.Text.{shipped_text}
use Rattle.text_targets.specs.Targets.{is_row, passes}
use Rattle.desk_run_lines.specs.Rows.{row_texts, row_of, is_go, label_of, row_below, at_line, label_line, row_line, row_lines}
use Rattle.desk_run_lines.specs.Sizes.{label_line_bytes, row_line_bytes, row_text_bytes, Short}

-- ---- one line

row_first : (l : Line) (ls : List Line) → is_row l.bytes ≡ true → row_texts (l ∷ ls) ≡ l.bytes ∷ row_texts ls
unfolding row_texts
row_first l ls t = rw (t, row_texts)

no_row : (l : Line) (ls : List Line) → is_row l.bytes ≡ false → row_texts (l ∷ ls) ≡ row_texts ls
unfolding row_texts
no_row l ls t = rw (t, row_texts)

-- the first line of what is left is the row that is looked for, or it is passed over
module _ (rest : List ℕ) (some : 0 < length rest) where
  pub row_found : is_row (before line_feed rest) ≡ true → get_or (row_texts (lines rest)) 0 [] ≡ before line_feed rest
  row_found t = rw (first_line_lem rest some, row_first (first_line rest) (lines (after line_feed rest)) t)

  pub row_passed : (t : Bool) (left : ℕ) → is_row (before line_feed rest) ≡ t → t && eqb left 0 ≡ false
      → get_or (row_texts (lines rest)) left [] ≡ get_or (row_texts (lines (after line_feed rest))) (pick t (left - 1) left) []
  row_passed true zero e f = absurd (false≢true (sym f))
  row_passed true (suc left) e f = rw (first_line_lem rest some, row_first (first_line rest) (lines (after line_feed rest)) e, sub-one (suc left))
  row_passed false left e f = rw (first_line_lem rest some, no_row (first_line rest) (lines (after line_feed rest)) e)

-- with all lines passed
pub row_none : (rest : List ℕ) (left : ℕ) → length rest ≤ 0 → [] ≡ get_or (row_texts (lines rest)) left []
unfolding row_texts lines
row_none [] left h = refl
row_none (b ∷ rest) left h = absurd (omega arith)

-- ---- the shipped rows

-- whether no text comes to more than n bytes
abbrev all_within : (List ℕ → List ℕ) → ℕ → List (List ℕ) → Bool
all_within f n [] = true
all_within f n (l ∷ ls) = leb (length (f l)) n && all_within f n ls

each_within : (f : List ℕ → List ℕ) (n : ℕ) (ls : List (List ℕ)) → length (f []) ≤ n → all_within f n ls ≡ true → (k : ℕ) → length (f (get_or ls k [])) ≤ n
each_within f n [] h t k = h
each_within f n (l ∷ ls) h t zero = leb-true (length (f l)) n (and_left (leb (length (f l)) n) (all_within f n ls) t)
each_within f n (l ∷ ls) h t (suc k) = each_within f n ls h (and_right (leb (length (f l)) n) (all_within f n ls) t) k

abbrev itself : List ℕ → List ℕ
itself l = l

rows_within : (v : Variant) → all_within itself row_text_bytes (row_texts (lines (shipped_text v))) ≡ true
unfolding run same lines field row_texts shipped_text
rows_within plain = refl
rows_within devices = refl

-- and the lines of their labels
labels_within : (v : Variant) → all_within (label_line (shipped_text v)) label_line_bytes (row_texts (lines (shipped_text v))) ≡ true
unfolding run same lines field decimal_in decimal passes row_texts shipped_text at_line label_line
labels_within plain = refl
labels_within devices = refl

no_label : (text : List ℕ) → length (label_line text []) ≤ label_line_bytes
unfolding run same field label_line
no_label text = omega arith

text_size : (v : Variant) → length (shipped_text v) ≤ most_bytes
unfolding shipped_text
text_size plain = lit≤ tt
text_size devices = lit≤ tt

pub shipped_short : (v : Variant) → Short (shipped_text v)
shipped_short v =
    record {
      size = text_size v;
      row = λ k. each_within itself row_text_bytes (row_texts (lines (shipped_text v))) (omega arith) (rows_within v) (k - 1);
      label = λ k. each_within (label_line (shipped_text v)) label_line_bytes (row_texts (lines (shipped_text v))) (no_label (shipped_text v)) (labels_within v) (k - 1);
    }

-- with a number below 256, the TAB and the LF
pub row_line_size : (text : List ℕ) (k : ℕ) → Short text → k < 256 → length (row_line text k) ≤ row_line_bytes
unfolding row_line
row_line_size text k s h =
    let short = decimal_length 2 k (omega arith) in
    let row = s.row k in
    let label = s.label k in
    simp length-append (omega arith)

-- ---- lines by their parts

pub at_line_lem : (label : List ℕ) (row : ℕ) → at_line label row ≡ ascii "at\t" ++ (label ++ (tab ∷ (decimal row ++ line_feed ∷ [])))
unfolding at_line
at_line_lem label row = ap (λ (l : List ℕ). ascii "at\t" ++ l) (append_assoc label (tab ∷ decimal row) (line_feed ∷ []))

pub row_line_lem : (text : List ℕ) (k : ℕ) → row_line text k ≡ decimal k ++ (tab ∷ (row_of k text ++ (line_feed ∷ label_line text (row_of k text))))
unfolding row_line
row_line_lem text k =
    append_assoc (decimal k ++ tab ∷ row_of k text) (line_feed ∷ []) (label_line text (row_of k text))
    ∙ append_assoc (decimal k) (tab ∷ row_of k text) (line_feed ∷ label_line text (row_of k text))

-- ---- the line of a label

pub at_size : (label : List ℕ) (row : ℕ) → length (at_line label row) ≡ length label + length (decimal row) + 5
unfolding at_line
at_size label row = simp length-append (omega arith)

module _ (text line : List ℕ) where
  pub go_label : is_go line ≡ true → label_line text line ≡ at_line (label_of line) (row_below (label_of line) text)
  unfolding label_line
  go_label t = ap (λ (b : Bool). pick b (at_line (label_of line) (row_below (label_of line) text)) []) t

  pub no_go : is_go line ≡ false → label_line text line ≡ []
  unfolding label_line
  no_go t = ap (λ (b : Bool). pick b (at_line (label_of line) (row_below (label_of line) text)) []) t

-- ---- lines of rows

module _ (text : List ℕ) where
  rows_snoc : (ks : List ℕ) (k : ℕ) → row_lines text (ks ++ k ∷ []) ≡ row_lines text ks ++ row_line text k
  unfolding row_lines
  rows_snoc [] k = append-nil (row_line text k)
  rows_snoc (x ∷ ks) k =
      ap (λ (l : List ℕ). row_line text x ++ l) (rows_snoc ks k) ∙ sym (append_assoc (row_line text x) (row_lines text ks) (row_line text k))

  -- one row more
  pub rows_more : (rows : List ℕ) (i : ℕ) → i < length rows → row_lines text (take (i + 1) rows) ≡ row_lines text (take i rows) ++ row_line text (get_or rows i 0)
  rows_more rows i h =
      ap (λ (n : ℕ). row_lines text (take n rows)) (add-one i) ∙ ap (row_lines text) (take-suc rows i 0 h) ∙ rows_snoc (take i rows) (get_or rows i 0)
