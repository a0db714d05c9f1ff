-- A scanner comes to what the definitions say by lines, whatever the lines say.
-- Assumes nothing.
use Rattle.std.proofs.Common.{◌≡◌, ℕ, suc, ◌+◌, ◌^◌, ◌<◌, ◌≤◌, Bool, true, false, ◌&&◌, eqb, List, [], ◌∷◌, ◌++◌, length, sym, refl, ap, ◌∙◌, mod-eq_of_lt, add-one, arith, length-append}
use mathlib.Core.Bool.{and-false, false≢true}
use native.Mathlib.Decide.{dec_lt}
use Rattle.laws.proofs.Tests.{by_test, not_so}
use Rattle.std.specs.Prelude.{Some, None, is_some}
use Rattle.word.specs.Choice.{pick}
use Rattle.word.proofs.Choice.{on_some}
use Rattle.characters.specs.Ascii.{line_feed}
use Rattle.text_fields.specs.Fields.{Line, push, lines}
use Rattle.desk_image.specs.Input.{after_lines, first_unfit}
use Rattle.desk_image.specs.Pass.{pass, next_line, Countable}
use Rattle.desk_image.specs.Scan.{Reading, Scan, refusing, scan_byte, scan_of, unfit_line}
use Rattle.desk_image.proofs.Scanning.{ends_unfit, ends_fit, stays, at_feed, within, too_long}

-- ---- lines that a part of a line stands before

-- bytes put before the first line
abbrev pushes : List ℕ → List Line → List Line
pushes [] ls = ls
pushes (b ∷ part) ls = push b (pushes part ls)

pushes_some : (part : List ℕ) (l : Line) (ls : List Line) → pushes part (l ∷ ls) ≡ record { bytes = part ++ l.bytes; ended = l.ended } ∷ ls
pushes_some [] l ls = refl
pushes_some (b ∷ part) l ls = ap (push b) (pushes_some part l ls)

pushes_feed : (part : List ℕ) (ls : List Line) → pushes part (record { bytes = []; ended = true } ∷ ls) ≡ record { bytes = part; ended = true } ∷ ls
pushes_feed [] ls = refl
pushes_feed (b ∷ part) ls = ap (push b) (pushes_feed part ls)

pushes_none : (b : ℕ) (part : List ℕ) → pushes (b ∷ part) [] ≡ record { bytes = b ∷ part; ended = false } ∷ []
pushes_none b [] = refl
pushes_none b (x ∷ part) = ap (push b) (pushes_none x part)

pushes_snoc : (part : List ℕ) (b : ℕ) (ls : List Line) → pushes part (push b ls) ≡ pushes (part ++ b ∷ []) ls
pushes_snoc [] b ls = refl
pushes_snoc (x ∷ part) b ls = ap (push x) (pushes_snoc part b ls)

-- the first line, of which at least `part` and one byte more are there
record First (part : List ℕ) (b : ℕ) (ls : List Line) : Type 0 where
  rest : List ℕ
  ended : Bool
  later : List Line
  is : pushes part (push b ls) ≡ record { bytes = part ++ b ∷ rest; ended = ended } ∷ later

first : (part : List ℕ) (b : ℕ) (ls : List Line) → First part b ls
first part b [] = record { rest = []; ended = false; later = []; is = pushes_some part _ _ }
first part b (l ∷ ls) = record { rest = l.bytes; ended = l.ended; later = ls; is = pushes_some part _ _ }

-- ---- a text

-- what a scanner has to know of the lines: a fit one is not empty, and no longer than its buffer
pub record Bounded {A : Type 0} (r : Reading A) : Type 0 where
  pub empty_unfit : r.fits [] ≡ false
  pub long_unfit : (line : List ℕ) → r.most < length line → r.fits line ≡ false

module _ {A : Type 0} (r : Reading A) where
  -- what is kept after lines of which the first has the number n. After an unfit line nothing is made any more.
  pub record Keeps (n : ℕ) (ls : List Line) (a : A) (s : Scan A) : Type 0 where
    pub unfit : unfit_line s ≡ first_unfit r.fits n ls
    pub makes : first_unfit r.fits n ls ≡ None → s.made ≡ after_lines r.enter ls a

  -- the scanner within line n, after a part of it
  abbrev in_line : ℕ → List ℕ → A → Scan A
  in_line n part a = record { line = n; part = part; refused = None; made = a }

  unfit_first : (n : ℕ) (l : Line) (ls : List Line) (a : A) (s : Scan A) → (l.ended && r.fits l.bytes) ≡ false → unfit_line s ≡ Some n → Keeps n (l ∷ ls) a s
  unfolding first_unfit
  unfit_first n l ls a s e u =
      let number : first_unfit r.fits n (l ∷ ls) ≡ Some n = rw (e, first_unfit) in
      record { unfit = u ∙ sym number; makes = λ z. absurd (false≢true (sym (ap is_some (sym number ∙ z)))) }

  fit_first : (n : ℕ) (part : List ℕ) (ls : List Line) (a : A) (s : Scan A) → r.fits part ≡ true
      → Keeps (suc n) ls (r.enter part a) s → Keeps n (record { bytes = part; ended = true } ∷ ls) a s
  unfolding first_unfit after_lines
  fit_first n part ls a s e later =
      let number : first_unfit r.fits n (record { bytes = part; ended = true } ∷ ls) ≡ first_unfit r.fits (suc n) ls = rw (e, first_unfit) in
      record { unfit = later.unfit ∙ sym number; makes = λ z. later.makes (sym number ∙ z) }

  -- a refused line stays refused
  refused_stays : (s : Scan A) (text : List ℕ) → is_some s.refused ≡ true → pass (scan_byte r) s text ≡ s
  unfolding pass
  refused_stays s [] e = refl
  refused_stays s (b ∷ text) e = rw (stays r s b e) (refused_stays s text e)

  not_empty : Bounded r → (part : List ℕ) → r.fits part ≡ true → 0 < length part
  not_empty bounded [] t = not_so (r.fits []) t bounded.empty_unfit
  not_empty bounded (b ∷ part) t = omega arith

  -- what is left of a text, after a part of line n
  abbrev Agrees : List ℕ → Type 0
  Agrees text =
      (n : ℕ) (part : List ℕ) (a : A) → length part ≤ r.most → n + (length part + length text) ≤ 2 ^ 64
      → Keeps n (pushes part (lines text)) a (pass (scan_byte r) (in_line n part a) text)

  -- at the end of the text no line may have begun
  at_end : Agrees []
  unfolding pass lines first_unfit after_lines
  at_end n [] a h z = record { unfit = refl; makes = λ e. refl }
  at_end n (b ∷ part) a h z =
      let begun-line : unfit_line (in_line n (b ∷ part) a) ≡ Some n = ap (λ (t : Bool). pick t (Some n) None) (on_some (suc (length part)) (omega arith)) in
      rw (pushes_none b part) (unfit_first n (record { bytes = b ∷ part; ended = false }) [] a _ refl begun-line)

  module _ (bounded : Bounded r) (b : ℕ) (text : List ℕ) (n : ℕ) (part : List ℕ) (a : A) (h : length part ≤ r.most)
      (z : n + (length part + suc (length text)) ≤ 2 ^ 64) where
    abbrev Step : Type 0
    Step = Keeps n (pushes part (lines (b ∷ text))) a (pass (scan_byte r) (scan_byte r (in_line n part a) b) text)

    -- an LF ends the line: a fit one, or another
    at_line_feed : eqb b line_feed ≡ true → pushes part (lines (b ∷ text)) ≡ record { bytes = part; ended = true } ∷ lines text
    unfolding lines
    at_line_feed f = rw (f, lines) (pushes_feed part (lines text))

    fit_feed : Agrees text → eqb b line_feed ≡ true → r.fits part ≡ true → Step
    fit_feed later f t =
        let some = not_empty bounded part t in
        let number : next_line n ≡ suc n = mod-eq_of_lt (omega arith) ∙ add-one n in
        let read : scan_byte r (in_line n part a) b ≡ in_line (suc n) [] (r.enter part a) =
        at_feed r (in_line n part a) b refl f ∙ ends_fit r (in_line n part a) t ∙ ap (λ (m : ℕ). in_line m [] (r.enter part a)) number in
        rw (at_line_feed f, read) (fit_first n part (lines text) a _ t (later (suc n) [] (r.enter part a) (omega arith) (omega arith)))

    unfit_feed : eqb b line_feed ≡ true → r.fits part ≡ false → Step
    unfit_feed f t =
        let read : scan_byte r (in_line n part a) b ≡ refusing (in_line n part a) = at_feed r (in_line n part a) b refl f ∙ ends_unfit r (in_line n part a) t in
        rw (at_line_feed f, read, refused_stays (refusing (in_line n part a)) text refl)
        (unfit_first n (record { bytes = part; ended = true }) (lines text) a _ t refl)

    -- another byte
    more : Agrees text → eqb b line_feed ≡ false → length part < r.most → Step
    unfolding lines
    more later f l =
        let cut : pushes part (lines (b ∷ text)) ≡ pushes (part ++ b ∷ []) (lines text) = rw (f, lines) (pushes_snoc part b (lines text)) in
        let size : length (part ++ b ∷ []) ≡ length part + 1 = length-append part (b ∷ []) in
        rw (cut, within r (in_line n part a) b refl f l) (later n (part ++ b ∷ []) a (omega arith) (omega arith))

    -- and one that no fit line has room for
    long : eqb b line_feed ≡ false → r.most ≤ length part → Step
    unfolding lines
    long f l =
        let line = first part b (lines text) in
        let cut : pushes part (lines (b ∷ text)) ≡ record { bytes = part ++ b ∷ line.rest; ended = line.ended } ∷ line.later = rw (f, lines) line.is in
        let size : length (part ++ b ∷ line.rest) ≡ length part + suc (length line.rest) = length-append part (b ∷ line.rest) in
        let unfit : (line.ended && r.fits (part ++ b ∷ line.rest)) ≡ false =
        rw (bounded.long_unfit (part ++ b ∷ line.rest) (omega arith)) (and-false line.ended) in
        rw (cut, too_long r (in_line n part a) b refl f l, refused_stays (refusing (in_line n part a)) text refl)
        (unfit_first n _ line.later a _ unfit refl)

  agrees : Bounded r → (text : List ℕ) → Agrees text
  unfolding pass
  agrees bounded [] = at_end
  agrees bounded (b ∷ text) = λ n part a h z.
      by_test (eqb b line_feed)
      (λ f. by_test (r.fits part) (λ t. fit_feed bounded b text n part a h z (agrees bounded text) f t) (λ t. unfit_feed bounded b text n part a h z f t))
      (λ f. elim (dec_lt (length part) r.most) [ yes l ↦ more bounded b text n part a h z (agrees bounded text) f l | no l ↦ long bounded b text n part a h z f (omega arith) ])

  -- the first unfit line of a text, and what its lines make where there is none
  pub by_lines : Bounded r → (text : List ℕ) → Countable text → Keeps 1 (lines text) r.start (scan_of r text)
  by_lines bounded text h = agrees bounded text 1 [] r.start (omega arith) (omega arith)
