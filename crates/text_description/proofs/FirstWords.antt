-- The laws of one line: where it stands in the text, and what it comes to by its first word.
-- Assumes nothing.
use mathlib.Core.Path.{◌≡◌, sym, ap, subst, ◌∙◌}
use mathlib.Core.Bool.{Bool, true, false, ◌&&◌}
use mathlib.Core.List.{List}
use Prim.Native.Nat.{ℕ, ◌+◌, ◌-◌, ◌≤◌}
use native.Mathlib.Omega.{arith}
use lib.Dec.{eqb, leb, ltb}
use lib.ListN.{length, take, drop}
use borrow.Author.Tests.{leb-true}
use Rattle.std.specs.Prelude.{Option, Result, Err}
use Rattle.characters.specs.Characters.{run, same}
use Rattle.characters.specs.declared.Class.TheVariants.{Other, Printable}
use Rattle.text_fields.specs.Fields as fields
use Rattle.characters.specs.Ascii.{line_feed}
use Rattle.text_fields.specs.Fields.{until, before, after, lines, field}
use Rattle.text_fields.specs.Rests.{first_line, Rest}
use Rattle.text_fields.specs.Steps.{Stands}
use Rattle.text_fields.specs.declared.by_line.Line as by_line
use Rattle.laws.proofs.Joined.{and_left, and_right}
use Rattle.characters.proofs.Runs.{run_le}
use Rattle.characters.proofs.Strings.{equal}
use Rattle.text_fields.proofs.Lines.{before_length}
use Rattle.text_declaration.specs.declared.faults.Fault.TheVariants.{Line}
use Rattle.text_declaration.specs.declared.lines.Progress as code
use Rattle.text_declaration.specs.declared.faults.Fault.{Fault}
use Rattle.text_limits.specs.Limits.{longest_line}
use Rattle.text_declaration.specs.Lines.{reg_word, do_word, go_word, at_word, Progress, Step, refused, reg_line, at_line}
use Rattle.text_declaration.specs.Stored.{progress_of}
use Rattle.text_rows.specs.Lines.{do_line, go_line}
use Rattle.text_targets.specs.Targets.{passes, is_missing, lacks_label}
use Rattle.text_rows.specs.Stored.{Takes, first_gone}
use Rattle.text_rows.proofs.RowLines.{takes_refused, takes_as}
use Rattle.text_description.specs.Line.{is_fit, by_word, read_line}

-- a line, by its first word
module _ (p : Progress) (below : List fields.Line) (l : fields.Line) where
  abbrev word : List ℕ
  word = field 0 l.bytes

  line_unfit : is_fit l ≡ false → read_line p below l ≡ refused Line
  unfolding read_line by_word
  line_unfit e = rw (e, by_word, read_line)

  line_reg : is_fit l ≡ true → same word reg_word ≡ true → read_line p below l ≡ reg_line p l.bytes
  unfolding read_line by_word
  line_reg e a = rw (e, a, by_word, read_line)

  line_do : is_fit l ≡ true → same word reg_word ≡ false → same word do_word ≡ true → read_line p below l ≡ do_line p l.bytes
  unfolding read_line by_word
  line_do e a b = rw (e, a, b, by_word, read_line)

  line_go : is_fit l ≡ true → same word reg_word ≡ false → same word do_word ≡ false → same word go_word ≡ true → read_line p below l ≡ go_line p below l.bytes
  unfolding read_line by_word
  line_go e a b c = rw (e, a, b, c, by_word, read_line)

  line_at : is_fit l ≡ true → same word reg_word ≡ false → same word do_word ≡ false → same word go_word ≡ false → same word at_word ≡ true
      → read_line p below l ≡ at_line p l.bytes
  unfolding read_line by_word
  line_at e a b c d = rw (e, a, b, c, d, by_word, read_line)

  line_unknown : is_fit l ≡ true → same word reg_word ≡ false → same word do_word ≡ false → same word go_word ≡ false → same word at_word ≡ false
      → read_line p below l ≡ refused Line
  unfolding read_line by_word
  line_unknown e a b c d = rw (e, a, b, c, d, by_word, read_line)

-- a `reg` or a `do` is no `go`
reg_no_go : (s : List ℕ) → same s reg_word ≡ true → same s go_word ≡ false
unfolding same
reg_no_go s e = ap (λ (l : List ℕ). same l go_word) (equal s reg_word e)

do_no_go : (s : List ℕ) → same s do_word ≡ true → same s go_word ≡ false
unfolding same
do_no_go s e = ap (λ (l : List ℕ). same l go_word) (equal s do_word e)

-- the first line of a rest, in the text
pub line_stands : (text rest line : List ℕ) → Rest text rest → line ≡ before line_feed rest → line ≡ take (length line) (drop (length text - length rest) text)
line_stands text rest line r e =
    e
    ∙ ap (take (until line_feed rest)) r.is
    ∙ ap (λ (k : ℕ). take k (drop (length text - length rest) text)) (sym (ap length e ∙ before_length line_feed rest))

-- it ends with the text or sooner
pub line_fits : (text rest line : List ℕ) → Rest text rest → {most : ℕ} → length text ≤ most → line ≡ before line_feed rest → length text - length rest + length line ≤ most
line_fits text rest line r h e = omega (arith, r.fits, h, ap length e ∙ before_length line_feed rest, run_le (Other line_feed) rest)

-- the first line of a rest, as the code finds it
abbrev found : List ℕ → List ℕ → fields.Line
found rest line = record { bytes = line; ended = ltb (until line_feed rest) (length rest) }

-- a line that stands first in the text from it on: its bytes, and whether it is fit
pub first_bytes : (l : by_line.Line) → Stands l → l.bytes.now ≡ before line_feed l.rest.now
first_bytes l s = ap (λ (z : fields.Line). z.bytes) s.line_is

pub fit_as : (l : by_line.Line) → Stands l → is_fit (found l.rest.now l.bytes.now) ≡ is_fit (record { bytes = l.bytes.now; ended = l.ended })
fit_as l s = ap (λ (b : Bool). is_fit (record { bytes = l.bytes.now; ended = b })) (sym (ap (λ (z : fields.Line). z.ended) s.line_is))

-- a fit line is short
pub fit_length : (rest line : List ℕ) → is_fit (found rest line) ≡ true → length line ≤ longest_line
fit_length rest line e =
    let b = ltb (until line_feed rest) (length rest) in
    leb-true (length line) longest_line
    (and_right b (leb (length line) longest_line) (and_left (b && leb (length line) longest_line) (eqb (run Printable line) (length line)) e))

-- what it comes to, by its first word: what is read of a line above the lines below it, and that the code's answer is what a definition says
module _ (text : List ℕ) (q : code.Progress) (n : ℕ) (rest line : List ℕ) (first : line ≡ before line_feed rest) (r : Result code.Progress Fault) (code₁ code₂ table₁ table₂ : List ℕ) where
  abbrev below : List fields.Line
  below = lines (after line_feed rest)

  abbrev reads : fields.Line → Progress → Step
  reads l p = read_line p below l

  -- the line of the first `go` without its label, with this line
  abbrev gone : Option ℕ
  gone = first_gone (lacks_label (before line_feed rest) below) n q.missing

  abbrev Comes : (Progress → Step) → Option ℕ → Type 0
  Comes g m = Takes text g m q r code₁ code₂ table₁ table₂

  not_gone : same (field 0 line) go_word ≡ false → gone ≡ q.missing
  not_gone e =
      ap (λ (l : List ℕ). first_gone (lacks_label l below) n q.missing) (sym first)
      ∙ ap (λ (b : Bool). first_gone (b && is_missing (passes (field 2 line) below)) n q.missing) e

  is_gone : same (field 0 line) go_word ≡ true → gone ≡ first_gone (is_missing (passes (field 2 line) below)) n q.missing
  is_gone e =
      ap (λ (l : List ℕ). first_gone (lacks_label l below) n q.missing) (sym first)
      ∙ ap (λ (b : Bool). first_gone (b && is_missing (passes (field 2 line) below)) n q.missing) e

  -- the line that was found is the rest's first, so what holds of it by the definition holds of that: it is taken so, or refused
  as_found : (p : Progress) → reads (first_line rest) p ≡ reads (found rest line) p
  as_found p = ap (λ (l : List ℕ). reads (found rest l) p) (sym first)

  comes_as : (g : Progress → Step) (m : Option ℕ) → gone ≡ m → ((p : Progress) → reads (found rest line) p ≡ g p) → Comes g m → Comes (reads (first_line rest)) gone
  comes_as g m i e = takes_as text (reads (first_line rest)) g m gone q r (λ rs. as_found (progress_of text q rs) ∙ e (progress_of text q rs)) i

  comes_refused : ((p : Progress) → reads (found rest line) p ≡ refused Line) → r ≡ Err Line
      → Comes (reads (first_line rest)) gone
  comes_refused e is =
      subst (λ (x : Result code.Progress Fault). Takes text (reads (first_line rest)) gone q x code₁ code₂ table₁ table₂) (sym is)
      (takes_refused text (reads (first_line rest)) gone q Line (λ rs. as_found (progress_of text q rs) ∙ e (progress_of text q rs)))

  pub comes_unfit : is_fit (found rest line) ≡ false → r ≡ Err Line → Comes (reads (first_line rest)) gone
  comes_unfit e = comes_refused (λ p. line_unfit p below (found rest line) e)

  module _ (e : is_fit (found rest line) ≡ true) (word : List ℕ) (zeroth : word ≡ field 0 line) where
    is_word_lem : (w : List ℕ) (b : Bool) → same word w ≡ b → same (field 0 line) w ≡ b
    is_word_lem w b i = ap (λ (l : List ℕ). same l w) (sym zeroth) ∙ i

    pub comes_reg : same word reg_word ≡ true → Comes (λ p. reg_line p line) q.missing → Comes (reads (first_line rest)) gone
    comes_reg a = comes_as (λ p. reg_line p line) q.missing (not_gone (reg_no_go (field 0 line) (is_word_lem reg_word true a))) (λ p. line_reg p below (found rest line) e (is_word_lem reg_word true a))

    module _ (a : same word reg_word ≡ false) where
      pub comes_do : same word do_word ≡ true → Comes (λ p. do_line p line) q.missing → Comes (reads (first_line rest)) gone
      comes_do b = comes_as (λ p. do_line p line) q.missing (not_gone (do_no_go (field 0 line) (is_word_lem do_word true b))) (λ p. line_do p below (found rest line) e (is_word_lem reg_word false a) (is_word_lem do_word true b))

      module _ (b : same word do_word ≡ false) where
        pub comes_go : same word go_word ≡ true → (tail : List ℕ) → tail ≡ after line_feed rest
            → Comes (λ p. go_line p (lines tail) line) (first_gone (is_missing (passes (field 2 line) (lines tail))) n q.missing)
            → Comes (reads (first_line rest)) gone
        comes_go d tail i =
            comes_as (λ p. go_line p (lines tail) line) (first_gone (is_missing (passes (field 2 line) (lines tail))) n q.missing)
            (is_gone (is_word_lem go_word true d) ∙ ap (λ (l : List ℕ). first_gone (is_missing (passes (field 2 line) (lines l))) n q.missing) (sym i))
            (λ p.
            line_go p below (found rest line) e (is_word_lem reg_word false a) (is_word_lem do_word false b) (is_word_lem go_word true d)
            ∙ ap (λ (l : List ℕ). go_line p (lines l) line) (sym i))

        module _ (d : same word go_word ≡ false) where
          pub comes_at : same word at_word ≡ true → Comes (λ p. at_line p line) q.missing → Comes (reads (first_line rest)) gone
          comes_at g =
              comes_as (λ p. at_line p line) q.missing (not_gone (is_word_lem go_word false d))
              (λ p. line_at p below (found rest line) e (is_word_lem reg_word false a) (is_word_lem do_word false b) (is_word_lem go_word false d) (is_word_lem at_word true g))

          pub comes_unknown : same word at_word ≡ false → r ≡ Err Line → Comes (reads (first_line rest)) gone
          comes_unknown g =
              comes_refused
              (λ p. line_unknown p below (found rest line) e (is_word_lem reg_word false a) (is_word_lem do_word false b) (is_word_lem go_word false d) (is_word_lem at_word false g))
