-- The laws of lines and fields: a text's first line and the rest of its lines, and where fields stand.
-- Assumes nothing.
use mathlib.Core.Path.{◌≡◌, refl, sym, ap, ◌∙◌}
use mathlib.Core.Bool.{Bool, true, false, not, ◌&&◌}
use mathlib.Core.List.{List, [], ◌∷◌}
use Prim.Native.Nat.{ℕ, zero, suc, ◌+◌, ◌-◌, ◌≤◌, ◌<◌}
use native.Mathlib.Nat.{suc-add}
use native.Mathlib.Numerals.{sub-one}
use native.Mathlib.Omega.{arith}
use lib.Dec.{eqb, ltb, leb-suc-suc}
use lib.ListN.{length, take, drop, length-take, length-drop}
use borrow.Author.Tests.{lt-ltb}
use Rattle.characters.specs.Characters.{run}
use Rattle.characters.specs.Ascii.{tab, line_feed}
use Rattle.text_fields.specs.Fields.{until, before, after, push, lines, field, has_fields}
use Rattle.text_fields.specs.Rests.{first_line}
use Rattle.characters.specs.declared.Class.TheVariants.{Other}
use Rattle.characters.proofs.Runs.{run_le, run_more, run_none}
use Rattle.laws.proofs.Tests.{by_test}

module _ (b : ℕ) (s : List ℕ) where
  ends : eqb b line_feed ≡ true → lines (b ∷ s) ≡ record { bytes = []; ended = true } ∷ lines s
  unfolding lines
  ends e = rw (e, lines)

  goes_on : eqb b line_feed ≡ false → lines (b ∷ s) ≡ push b (lines s)
  unfolding lines
  goes_on e = rw (e, lines)

  none : (x : ℕ) → eqb b x ≡ true → until x (b ∷ s) ≡ 0
  none x e = run_none (Other x) b s (ap not e)

  more : (x : ℕ) → eqb b x ≡ false → until x (b ∷ s) ≡ suc (until x s)
  more x e = run_more (Other x) b s (ap not e)

-- a text that begins with LF
ended : (b : ℕ) (s : List ℕ) → eqb b line_feed ≡ true → lines (b ∷ s) ≡ first_line (b ∷ s) ∷ lines (after line_feed (b ∷ s))
ended b s e = ends b s e ∙ rw (none b s line_feed e) (ap (λ (u : Bool). record { bytes = []; ended = u } ∷ lines s) (sym (lt-ltb 0 (suc (length s)) (omega arith))))

-- a line that begins with b
pushed : (b : ℕ) (s : List ℕ) → eqb b line_feed ≡ false → push b (first_line s ∷ lines (after line_feed s)) ≡ first_line (b ∷ s) ∷ lines (after line_feed (b ∷ s))
pushed b s e =
    rw (more b s line_feed e, leb-suc-suc (suc (until line_feed s)) (length s), suc-add (until line_feed s) 1)

-- nothing follows a last line without LF
nothing : (x : ℕ) → push x (lines []) ≡ record { bytes = take (suc (until line_feed [])) (x ∷ []); ended = ltb (suc (until line_feed [])) (length (x ∷ [])) } ∷ lines (drop (suc (until line_feed []) + 1) (x ∷ []))
unfolding lines run
nothing x = refl

-- a text's lines, from its first one
lines_split : (b : ℕ) (s : List ℕ) → lines (b ∷ s) ≡ first_line (b ∷ s) ∷ lines (after line_feed (b ∷ s))
lines_split b [] = by_test (eqb b line_feed) (λ e. ended b [] e) (λ e. goes_on b [] e ∙ alone b e)
  where
    alone : (x : ℕ) → eqb x line_feed ≡ false → push x (lines []) ≡ first_line (x ∷ []) ∷ lines (after line_feed (x ∷ []))
    alone x e = rw (more x [] line_feed e) (nothing x)
lines_split b (x ∷ t) =
    by_test (eqb b line_feed)
    (λ e. ended b (x ∷ t) e)
    (λ e. goes_on b (x ∷ t) e ∙ ap (push b) (lines_split x t) ∙ pushed b (x ∷ t) e)

-- the same of a text that isn't empty, and of one that is
pub first_line_lem : (s : List ℕ) → 0 < length s → lines s ≡ first_line s ∷ lines (after line_feed s)
first_line_lem [] h = absurd (omega arith)
first_line_lem (b ∷ s) h = lines_split b s

pub no_line : (s : List ℕ) → length s ≤ 0 → lines s ≡ []
unfolding lines
no_line [] h = refl
no_line (b ∷ s) h = absurd (omega arith)

-- how long the part before a byte is
pub before_length : (b : ℕ) (s : List ℕ) → length (before b s) ≡ until b s
before_length b s = length-take (until b s) s ∙ omega (arith, run_le (Other b) s)

-- what follows a byte is shorter
pub after_shorter : (b : ℕ) (s t : List ℕ) → 0 < length s → t ≡ after b s → length t < length s
after_shorter b s t h e = omega (arith, ap length e, length-drop (until b s + 1) s)

-- field n of a line
pub next_field : (n : ℕ) (s : List ℕ) → 0 < n → field n s ≡ field (n - 1) (after tab s)
unfolding field
next_field zero s h = absurd (omega arith)
next_field (suc n) s h = ap (λ (k : ℕ). field k (after tab s)) (sym (sub-one (suc n)))

pub first_field : (n : ℕ) (s : List ℕ) → n ≤ 0 → field n s ≡ before tab s
unfolding field
first_field zero s h = refl
first_field (suc n) s h = absurd (omega arith)

-- fields, one after the other
pub more_fields : (n : ℕ) (s : List ℕ) → 1 < n → ltb 0 (until tab s) && ltb (until tab s) (length s) ≡ true → has_fields n s ≡ has_fields (n - 1) (after tab s)
unfolding has_fields
more_fields zero s h e = absurd (omega arith)
more_fields (suc zero) s h e = absurd (omega arith)
more_fields (suc (suc n)) s h e = rw (e, has_fields) (ap (λ (k : ℕ). has_fields k (after tab s)) (sym (sub-one (suc (suc n)))))

pub few_fields : (n : ℕ) (s : List ℕ) → 1 < n → ltb 0 (until tab s) && ltb (until tab s) (length s) ≡ false → has_fields n s ≡ false
unfolding has_fields
few_fields zero s h e = refl
few_fields (suc zero) s h e = absurd (omega arith)
few_fields (suc (suc n)) s h e = rw (e, has_fields)

pub last_field : (n : ℕ) (s : List ℕ) → n ≡ 1 → has_fields n s ≡ ltb 0 (until tab s) && eqb (until tab s) (length s)
unfolding has_fields
last_field n s e = rw e
