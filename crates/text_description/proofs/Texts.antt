-- The laws of whole texts: line by line, and what is looked for after all lines.
-- Assumes nothing.
use mathlib.Core.Path.{◌≡◌, refl, sym, ap, subst, ◌∙◌}
use mathlib.Core.Bool.{Bool, true, false, ◌&&◌}
use mathlib.Core.List.{List, [], ◌∷◌}
use Prim.Native.Nat.{ℕ, ◌+◌, ◌-◌, ◌*◌, ◌≤◌, ◌<◌}
use native.Mathlib.Omega.{arith}
use lib.Dec.{eqb, leb, ltb}
use lib.ListN.{length, drop, length-drop, drop_of_length-le, replicate}
use lib.Seq.{sets, drop-drop}
use borrow.Author.Tests.{leb-true, leb-false}
use Rattle.std.specs.Prelude.{Option, Some, None, MatchOption, Result, Ok, Err, IsOk, IsErr, is_ok}
use Rattle.characters.specs.Characters.{run, same}
use Rattle.text_fields.specs.Fields as fields
use Rattle.characters.specs.Ascii.{line_feed}
use Rattle.text_fields.specs.Fields.{until, before, after, lines}
use Rattle.text_fields.specs.Rests.{first_line, Rest}
use Rattle.characters.specs.Named.{Named, find, found as place_found}
use Rattle.text_names.specs.Dictionaries.{entries_from, entries, number_at}
use Rattle.text_names.specs.declared.Dictionary.{Dictionary}
use Rattle.characters.proofs.Searches.{found_at, found_within, found_none}
use Rattle.laws.proofs.Tests.{by_test}
use Rattle.text_fields.proofs.Lines.{first_line_lem, no_line}
use Rattle.text_bit_parts.specs.References.{width_in}
use Rattle.text_names.proofs.Entries.{entries_length}
use Rattle.text_bit_parts.proofs.Listed.{width_is}
use Rattle.text_declaration.specs.declared.faults.Fault.{Fault}
use Rattle.text_declaration.specs.declared.faults.Fault.TheVariants.{Size, Header, Line, Label, Run}
use Rattle.text_declaration.specs.declared.lines.Progress as code
use Rattle.text_declaration.specs.Rows.{Row, pieces_of, Description}
use Rattle.text_limits.specs.Limits.{most_bytes, most_rows}
use Rattle.text_declaration.specs.Lines.{Progress, refused, next}
use Rattle.text_declaration.specs.Stored.{progress_of, Within}
use Rattle.text_code.specs.Met.{capacity}
use Rattle.text_rows.specs.Cells as cells
use Rattle.text_code.specs.RowTable.{row_cells}
use Rattle.text_targets.specs.Targets.{MissingTarget, missing_at, none_missing, first_missing, lacks_label}
use Rattle.text_rows.specs.Stored.{Tables, Takes, first_gone}
use Rattle.text_description.specs.Line.{read_line}
use Rattle.text_description.specs.declared.reader.Description as found
use Rattle.text_description.specs.declared.reader.Refusal.{Refusal}
use Rattle.text_description.specs.Description.{Acceptance, accepted, turned_down, kept_at, header, run_name, nothing, has_run, finished, read_lines, read_below, read_all, read_text}
use Rattle.text_description.specs.Stored.{unread, judged, first_of, Finishes, refusal, Accepts, Tells, Leaves}

-- what is left of a text
rest_drop : (text : List ℕ) (k : ℕ) → Rest text (drop k text)
rest_drop text k =
    by_test (leb k (length text))
    (λ t.
    let h : k ≤ length text = leb-true k (length text) t in
    record {
      is = ap (λ (i : ℕ). drop i text) {x = k} {y = length text - length (drop k text)} (omega (arith, length-drop k text, h));
      fits = omega (arith, length-drop k text);
    })
    (λ t.
    let h : length text < k = leb-false k (length text) t in
    let nil : drop k text ≡ [] = drop_of_length-le text {i = k} (omega (arith, h)) in
    record {
      is = nil ∙ sym (drop_of_length-le text {i = length text - length (drop k text)} (omega (arith, ap length nil)));
      fits = omega (arith, length-drop k text);
    })

rest_after : (text rest : List ℕ) → Rest text rest → Rest text (after line_feed rest)
rest_after text rest r =
    subst (λ (l : List ℕ). Rest text l)
    (sym (ap (drop (until line_feed rest + 1)) r.is ∙ drop-drop (until line_feed rest + 1) (length text - length rest) text))
    (rest_drop text (length text - length rest + (until line_feed rest + 1)))

-- after all lines
module _ (text : List ℕ) (q : code.Progress) (n : ℕ) where
  pub label_missing : (k : ℕ) → q.missing ≡ Some k → Finishes text q n (Err (record { fault = Label; line = k }))
  unfolding finished
  label_missing k e all rs m = rw (m ∙ ap (λ (x : Option ℕ). first_of x none_missing) e, finished)

  pub all_there : q.missing ≡ None → has_run (entries text q.registers) ≡ true → Finishes text q n (Ok tt)
  unfolding finished
  all_there e f all rs m = rw (m ∙ ap (λ (x : Option ℕ). first_of x none_missing) e, f, finished)

  pub no_run : q.missing ≡ None → has_run (entries text q.registers) ≡ false → Finishes text q n (Err (record { fault = Run; line = n }))
  unfolding finished
  no_run e f all rs m = rw (m ∙ ap (λ (x : Option ℕ). first_of x none_missing) e, f, finished)

-- line by line
module _ (all : List fields.Line) (p : Progress) (n : ℕ) (l : fields.Line) (ls : List fields.Line) where
  one_line : (q : Progress) → read_line p ls l ≡ next q → read_lines all p n (l ∷ ls) ≡ read_lines all q (n + 1) ls
  unfolding read_lines
  one_line q e = rw (e, read_lines)

  bad_line : (f : Fault) → read_line p ls l ≡ refused f → read_lines all p n (l ∷ ls) ≡ turned_down f n
  unfolding read_lines
  bad_line f e = rw (e, read_lines)

no_lines : (all : List fields.Line) (p : Progress) (n : ℕ) → read_lines all p n [] ≡ finished all p n
unfolding read_lines
no_lines all p n = refl

-- the first missing target, a line further: the code's line n, or the one that it held
gone_first : (b : Bool) (held : Option ℕ) (n : ℕ) (x : MissingTarget)
    → first_of held (elim b [ true ↦ missing_at n | false ↦ x ]) ≡ first_of (first_gone b n held) x
gone_first false held n x = refl
gone_first true (Some k) n x = refl
gone_first true None n x = refl

missing_next : (held : Option ℕ) (n : ℕ) (l : fields.Line) (ls : List fields.Line)
    → first_of held (first_missing n (l ∷ ls)) ≡ first_of (first_gone (lacks_label l.bytes ls) n held) (first_missing (n + 1) ls)
unfolding first_missing
missing_next held n l ls = gone_first (lacks_label l.bytes ls) held n (first_missing (n + 1) ls)

missing_last : (held : Option ℕ) (n : ℕ) → first_of held (first_missing n []) ≡ first_of held none_missing
unfolding first_missing
missing_last held n = refl

-- by what the text comes to
abbrev is_taken : Acceptance → Bool
is_taken (accepted d) = true
is_taken (turned_down f n) = false

not_taken : {d : Description} {f : Fault} {n : ℕ} {P : Type 0} → turned_down f n ≡ accepted d → P
not_taken e = absurd (mathlib.Core.Bool.false≢true (ap is_taken e))

described : Description → Acceptance → Description
described d (accepted e) = e
described d (turned_down f n) = d

accepts_tells : (text : List ℕ) (r : found.Description) (d : Description) {code₀ code₁ table₀ table₁ : List ℕ} → Accepts d text r code₀ code₁ table₀ table₁
    → Tells (accepted d) text (Ok r) code₀ code₁ table₀ table₁
unfolding described
accepts_tells text r d {code₀} {code₁} {table₀} {table₁} a =
    record {
      accepts = λ e i. subst (λ (x : Description). Accepts x text r code₀ code₁ table₀ table₁) (ap (described d) i) a;
      refuses = λ f n i. not_taken (sym i);
    }

-- the answer to a text that is turned down
answer_by : Result found.Description Refusal → Acceptance → Result found.Description Refusal
answer_by r (accepted d) = r
answer_by r (turned_down f n) = refusal f n

refused_tells : (text : List ℕ) (f : Fault) (n : ℕ) {code₀ code₁ table₀ table₁ : List ℕ}
    → Tells (turned_down f n) text (refusal f n) code₀ code₁ table₀ table₁
unfolding answer_by
refused_tells text f n = record { accepts = λ d i. not_taken i; refuses = λ g k i. ap (answer_by (refusal f n)) i }

-- what the loop over the lines keeps
pub record SoFar (text code₀ table₀ rest : List ℕ) (q : code.Progress) (n : ℕ) (code₁ table₁ : List ℕ) : Type 0 where
  pub rows : List Row
  pub is : read_below (lines (after line_feed text)) ≡ read_lines (lines (after line_feed text)) (progress_of text q rows) n (lines rest)
  pub missing_is : first_missing 2 (lines (after line_feed text)) ≡ first_of q.missing (first_missing n (lines rest))
  pub tables : Tables rows q code₀ code₁ table₀ table₁
  pub within : Within q
  pub left : Rest text rest
  pub count : n + length rest ≤ length text + 2

-- before the first line
none_yet : (text : List ℕ) → progress_of text unread [] ≡ nothing
unfolding entries_from
none_yet text = refl

no_rows : (code₀ table₀ : List ℕ) → Tables [] unread code₀ code₀ table₀ table₀
unfolding cells.code cells.cells pieces_of
no_rows code₀ table₀ = record { rows_are = refl; pieces_are = refl; words_are = refl; code_is = refl; table_is = refl }

below_from : (text : List ℕ) → read_below (lines (after line_feed text)) ≡ read_lines (lines (after line_feed text)) (progress_of text unread []) 2 (lines (after line_feed text))
unfolding read_below
below_from text = ap (λ (p : Progress). read_lines (lines (after line_feed text)) p 2 (lines (after line_feed text))) (sym (none_yet text))

pub so_far_start : (text code₀ table₀ rest : List ℕ) (q : code.Progress) → q ≡ unread → rest ≡ after line_feed text
    → SoFar text code₀ table₀ rest q 2 code₀ table₀
so_far_start text code₀ table₀ rest q e f =
    subst (λ (x : code.Progress). SoFar text code₀ table₀ rest x 2 code₀ table₀) (sym e)
    (subst (λ (l : List ℕ). SoFar text code₀ table₀ l unread 2 code₀ table₀) (sym f)
    (record {
      rows = [];
      is = below_from text;
      missing_is = refl;
      tables = no_rows code₀ table₀;
      within = record { few_registers = omega arith; few_labels = omega arith; few_rows = omega arith; few_words = omega arith; few_pieces = omega arith };
      left = rest_drop text (until line_feed text + 1);
      count = omega (arith, length-drop (until line_feed text + 1) text);
    }))

-- a line more
module _ (text code₀ table₀ rest : List ℕ) (q : code.Progress) (n : ℕ) (code₁ table₁ : List ℕ) (t : SoFar text code₀ table₀ rest q n code₁ table₁) where
  abbrev below : List fields.Line
  below = lines (after line_feed text)

  abbrev now : Progress
  now = progress_of text q t.rows

  -- the line, with what the code held before it
  abbrev Taken : Result code.Progress Fault → List ℕ → List ℕ → Type 0
  Taken r code₂ table₂ =
      Takes text (λ (p : Progress). read_line p (lines (after line_feed rest)) (first_line rest))
      (first_gone (lacks_label (before line_feed rest) (lines (after line_feed rest))) n q.missing) q r code₁ code₂ table₁ table₂

  opened : 0 < length rest → read_lines below now n (lines rest) ≡ read_lines below now n (first_line rest ∷ lines (after line_feed rest))
  opened h = ap (read_lines below now n) (first_line_lem rest h)

  pub so_far_next : (p : code.Progress) {code₂ table₂ : List ℕ} → 0 < length rest → Taken (Ok p) code₂ table₂ → (rest' : List ℕ) → rest' ≡ after line_feed rest
      → SoFar text code₀ table₀ rest' p (n + 1) code₂ table₂
  so_far_next p {code₂} {table₂} h k rest' f =
      let came = k.comes t.rows code₀ table₀ t.tables in
      subst (λ (l : List ℕ). SoFar text code₀ table₀ l p (n + 1) code₂ table₂) (sym f)
      (record {
        rows = came.rows;
        is = t.is ∙ opened h ∙ one_line below now n (first_line rest) (lines (after line_feed rest)) _ came.is;
        missing_is =
            t.missing_is
            ∙ ap (λ (ls : List fields.Line). first_of q.missing (first_missing n ls)) (first_line_lem rest h)
            ∙ missing_next q.missing n (first_line rest) (lines (after line_feed rest))
            ∙ ap (λ (m : Option ℕ). first_of m (first_missing (n + 1) (lines (after line_feed rest)))) (sym k.missing_is);
        tables = came.holds;
        within = k.within;
        left = rest_after text rest t.left;
        count = omega (arith, t.count, length-drop (until line_feed rest + 1) rest, h);
      })

  pub so_far_refused : (f : Fault) {code₂ table₂ : List ℕ} → 0 < length rest → Taken (Err f) code₂ table₂ → read_below below ≡ turned_down f n
  so_far_refused f h k =
      t.is ∙ opened h ∙ bad_line below now n (first_line rest) (lines (after line_feed rest)) f (k.comes t.rows code₀ table₀ t.tables).is

  -- past the last line
  abbrev described_lem : Description
  described_lem = record { registers = entries text q.registers; rows = t.rows }

  ended : (v : Result (Unit {0}) Refusal) → length rest ≤ 0 → Finishes text q n v → read_below below ≡ judged v described_lem
  ended v h f =
      t.is
      ∙ ap (read_lines below now n) (no_line rest h)
      ∙ no_lines below now n
      ∙ f below t.rows
      (t.missing_is ∙ ap (λ (ls : List fields.Line). first_of q.missing (first_missing n ls)) (no_line rest h) ∙ missing_last q.missing n)

  pub so_far_last : length rest ≤ 0 → Finishes text q n (Ok tt)
      → Tells (read_below below) text (Ok (record { registers = q.registers; rows = q.rows })) code₀ code₁ table₀ table₁
  so_far_last h f =
      subst (λ (x : Acceptance). Tells x text (Ok (record { registers = q.registers; rows = q.rows })) code₀ code₁ table₀ table₁) (sym (ended (Ok tt) h f))
      (accepts_tells text _ described_lem
      (record { registers_are_lem = refl; rows_are = t.tables.rows_are; code_is = t.tables.code_is; table_is = t.tables.table_is }))

  pub so_far_turned_down : (e : Refusal) → length rest ≤ 0 → Finishes text q n (Err e) → read_below below ≡ turned_down e.fault e.line
  so_far_turned_down e h f = ended (Err e) h f

-- a text that is turned down
pub tells_refused : (text : List ℕ) (x : Acceptance) (f : Fault) (n : ℕ) (code₀ code₁ table₀ table₁ : List ℕ) → x ≡ turned_down f n
    → Tells x text (refusal f n) code₀ code₁ table₀ table₁
tells_refused text x f n code₀ code₁ table₀ table₁ g =
    subst (λ (z : Acceptance). Tells z text (refusal f n) code₀ code₁ table₀ table₁) (sym g) (refused_tells text f n)

-- a text of which the definition says the same
pub tells_as : (text : List ℕ) (x y : Acceptance) (r : Result found.Description Refusal) (code₀ code₁ table₀ table₁ : List ℕ) → x ≡ y → Tells y text r code₀ code₁ table₀ table₁
    → Tells x text r code₀ code₁ table₀ table₁
tells_as text x y r code₀ code₁ table₀ table₁ e k = subst (λ (z : Acceptance). Tells z text r code₀ code₁ table₀ table₁) (sym e) k

-- an answer is a description or a refusal
not_both : {d : found.Description} {e : Refusal} {P : Type 0} → ◌≡◌ {A = Result found.Description Refusal} (Ok d) (Err e) → P
not_both k = absurd (mathlib.Core.Bool.false≢true (sym (ap (λ (r : Result found.Description Refusal). is_ok r) k)))

-- what is left of a text that is accepted, and of one that is turned down, after which the tables are emptied
pub leaves_accepted : (text : List ℕ) (x : Acceptance) (r : Result found.Description Refusal) (code₀ code₁ table₀ table₁ : List ℕ) → IsOk r
    → Tells x text r code₀ code₁ table₀ table₁ → Leaves x text r code₀ code₁ table₀ table₁
leaves_accepted text x (Ok d) code₀ code₁ table₀ table₁ e t = record { accepts = t.accepts; empties = λ f n i. not_both (t.refuses f n i) }
leaves_accepted text x (Err k) code₀ code₁ table₀ table₁ e t = absurd (mathlib.Core.Bool.false≢true e)

pub leaves_refused : (text : List ℕ) (x : Acceptance) (r : Result found.Description Refusal) (code₀ code₁ code₂ table₀ table₁ table₂ : List ℕ)
    → IsErr r → Tells x text r code₀ code₁ table₀ table₁ → code₂ ≡ replicate (4 * capacity) 0
    → table₂ ≡ replicate (row_cells * most_rows) 0 → Leaves x text r code₀ code₂ table₀ table₂
leaves_refused text x (Ok d) code₀ code₁ code₂ table₀ table₁ table₂ e t codes rows = absurd (mathlib.Core.Bool.false≢true e)
leaves_refused text x (Err k) code₀ code₁ code₂ table₀ table₁ table₂ e t codes rows =
    record {
      accepts = λ d i. absurd (t.accepts d i);
      empties = λ g j i. record { is = t.refuses g j i; code_is = codes; table_is = rows };
    }

-- what a caller finds of a text, by the answer
abbrev pub rows_of : Acceptance → List Row
rows_of (accepted d) = d.rows
rows_of (turned_down f n) = []

pub leaves_is : (text : List ℕ) (x : Acceptance) (d : found.Description) {code₀ code₁ table₀ table₁ : List ℕ} → Leaves x text (Ok d) code₀ code₁ table₀ table₁
    → x ≡ accepted (record { registers = entries text d.registers; rows = rows_of x })
leaves_is text (accepted e) d l =
    ap (λ (rs : List Named). accepted (record { registers = rs; rows = e.rows })) (sym (l.accepts e refl).registers_are_lem)
leaves_is text (turned_down f n) d l = not_both (l.empties f n refl).is

pub leaves_turned_down : (text : List ℕ) (x : Acceptance) (e : Refusal) {code₀ code₁ table₀ table₁ : List ℕ} → Leaves x text (Err e) code₀ code₁ table₀ table₁
    → x ≡ turned_down e.fault e.line
leaves_turned_down text (accepted d) e l = absurd (l.accepts d refl)
leaves_turned_down text (turned_down f n) e l = ap refusal_said (sym (l.empties f n refl).is)
  where
    refusal_said : Result found.Description Refusal → Acceptance
    refusal_said r = judged r (record { registers = []; rows = [] })

pub leaves_rows : (text : List ℕ) (x : Acceptance) (d : found.Description) (code₀ code₁ table₀ table₁ : List ℕ)
    → Leaves x text (Ok d) code₀ code₁ table₀ table₁
    → (d.rows ≡ length (rows_of x)) × ((code₁ ≡ sets code₀ 0 (cells.code (rows_of x))) × (table₁ ≡ sets table₀ 0 (cells.cells 0 (rows_of x))))
leaves_rows text (accepted e) d code₀ code₁ table₀ table₁ l =
    let k = l.accepts e refl in
    (k.rows_are, (k.code_is, k.table_is))
leaves_rows text (turned_down f n) d code₀ code₁ table₀ table₁ l = not_both (l.empties f n refl).is

-- the header
pub too_long : (s : List ℕ) → leb (length s) most_bytes ≡ false → read_text s ≡ turned_down Size 0
unfolding read_text
too_long s a = rw (a, read_text)

-- the first of the lines, which an empty text has not
first_bad : (s : List ℕ) → same (before line_feed s) header ≡ false → read_all (lines s) ≡ turned_down Header 1
unfolding read_all lines
first_bad [] e = refl
first_bad (y ∷ s) e = ap read_all (first_line_lem (y ∷ s) (omega arith)) ∙ ap (λ (b : Bool). kept_at 1 b Header (kept_at 1 (first_line (y ∷ s)).ended Line (read_below (lines (after line_feed (y ∷ s)))))) e

first_good : (s : List ℕ) → same (before line_feed s) header ≡ true
    → read_all (lines s) ≡ kept_at 1 (ltb (until line_feed s) (length s)) Line (read_below (lines (after line_feed s)))
unfolding read_all same run
first_good [] e = absurd (mathlib.Core.Bool.false≢true e)
first_good (y ∷ s) e = ap read_all (first_line_lem (y ∷ s) (omega arith)) ∙ ap (λ (b : Bool). kept_at 1 b Header (kept_at 1 (first_line (y ∷ s)).ended Line (read_below (lines (after line_feed (y ∷ s)))))) e

module _ (s : List ℕ) (a : leb (length s) most_bytes ≡ true) where
  short : read_text s ≡ read_all (lines s)
  unfolding read_text
  short = rw (a, read_text)

  pub no_header : same (before line_feed s) header ≡ false → read_text s ≡ turned_down Header 1
  no_header b = short ∙ first_bad s b

  with_header : same (before line_feed s) header ≡ true → read_text s ≡ kept_at 1 (ltb (until line_feed s) (length s)) Line (read_below (lines (after line_feed s)))
  with_header b = short ∙ first_good s b

  pub header_alone : same (before line_feed s) header ≡ true → ltb (until line_feed s) (length s) ≡ false → read_text s ≡ turned_down Line 1
  header_alone b c = with_header b ∙ ap (λ (h : Bool). kept_at 1 h Line (read_below (lines (after line_feed s)))) c

  pub after_header : same (before line_feed s) header ≡ true → ltb (until line_feed s) (length s) ≡ true → read_text s ≡ read_below (lines (after line_feed s))
  after_header b c = with_header b ∙ ap (λ (h : Bool). kept_at 1 h Line (read_below (lines (after line_feed s)))) c

-- "register RUN of width 1", as the code finds it
pub run_found : (text : List ℕ) (d : Dictionary) (o : Option ℕ) (b : Bool) {Fits : ℕ → Type 0} → o ≡ place_found run_name (entries text d)
    → MatchOption o (b ≡ false) Fits → ((i : ℕ) → Fits i → b ≡ eqb (number_at d i) 1) → b ≡ has_run (entries text d)
run_found text d None b e m f = m ∙ sym (ap (λ (t : Bool). t && eqb (width_in (entries text d) (find run_name (entries text d))) 1) (found_none run_name (entries text d) (sym e)))
run_found text d (Some i) b e m f =
    let rs = entries text d in
    let p = found_at run_name rs (sym e) in
    f i m
    ∙ ap (λ (w : ℕ). eqb w 1) (sym (width_is text d i (omega (arith, found_within run_name rs (sym e), entries_length text d))))
    ∙ ap (λ (j : ℕ). eqb (width_in rs j) 1) (sym p.1)
    ∙ sym (ap (λ (t : Bool). t && eqb (width_in rs (find run_name rs)) 1) p.0)
