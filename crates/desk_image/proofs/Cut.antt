-- How a text is cut into lines: bytes without an LF and an LF are the first line, and whole lines stand apart from what follows them.
-- Assumes nothing.
use Rattle.std.proofs.Common.{◌≡◌, ℕ, Bool, true, false, not, ◌&&◌, eqb, List, [], ◌∷◌, ◌++◌, sym, refl, ap, ◌∙◌, append_assoc}
use Rattle.laws.proofs.Joined.{and_both}
use Rattle.laws.proofs.Tests.{by_test}
use Rattle.characters.specs.Ascii.{line_feed}
use Rattle.text_fields.specs.Fields.{Line, push, lines}

-- ---- lines without an LF inside

abbrev pub clean : List ℕ → Bool
clean [] = true
clean (b ∷ bytes) = not (eqb b line_feed) && clean bytes

no_lf : (t : Bool) → not t ≡ true → t ≡ false
no_lf true e = sym e
no_lf false e = refl

pub clean_append : (p q : List ℕ) → clean p ≡ true → clean q ≡ true → clean (p ++ q) ≡ true
clean_append [] q e f = f
clean_append (b ∷ p) q e f = let parts = and_both (not (eqb b line_feed)) (clean p) e in rw (parts.0, clean_append p q parts.1 f)

-- such bytes and an LF are the first line
pub cut_first : (p text : List ℕ) → clean p ≡ true → lines (p ++ line_feed ∷ [] ++ text) ≡ record { bytes = p; ended = true } ∷ lines text
unfolding lines
cut_first [] text e = refl
cut_first (b ∷ p) text e =
    let parts = and_both (not (eqb b line_feed)) (clean p) e in
    rw (no_lf (eqb b line_feed) parts.0, lines) (ap (push b) (cut_first p text parts.1))

-- ---- texts of whole lines

-- such a text is cut as if nothing followed
abbrev pub Whole : List ℕ → Type 0
Whole t = (more : List ℕ) → lines (t ++ more) ≡ lines t ++ lines more

pub whole_none : Whole []
unfolding lines
whole_none more = refl

pub whole_append : (s t : List ℕ) → Whole s → Whole t → Whole (s ++ t)
whole_append s t f g more =
    ap lines (append_assoc s t more) ∙ f (t ++ more) ∙ ap (λ (ls : List Line). lines s ++ ls) (g more)
    ∙ sym (append_assoc (lines s) (lines t) (lines more)) ∙ ap (λ (ls : List Line). ls ++ lines more) (sym (f t))

-- a text that is not empty has a first line
record First (b : ℕ) (text : List ℕ) : Type 0 where
  line : Line
  later : List Line
  is : lines (b ∷ text) ≡ line ∷ later

first : (b : ℕ) (text : List ℕ) → First b text
first b text = go (eqb b line_feed) refl (lines text) refl
  where
    go : (t : Bool) → eqb b line_feed ≡ t → (ls : List Line) → lines text ≡ ls → First b text
    go true e ls l = record { line = record { bytes = []; ended = true }; later = lines text; is = unfold lines in (rw (e, lines)) }
    go false e [] l = record { line = record { bytes = b ∷ []; ended = false }; later = []; is = unfold lines in (rw (e, lines) (ap (push b) l)) }
    go false e (m ∷ ls) l = record { line = record { bytes = b ∷ m.bytes; ended = m.ended }; later = ls; is = unfold lines in (rw (e, lines) (ap (push b) l)) }

-- a byte put before the first of some lines
push_append : (b c : ℕ) (text : List ℕ) (ls : List Line) → push b (lines (c ∷ text) ++ ls) ≡ push b (lines (c ∷ text)) ++ ls
push_append b c text ls = rw (first c text).is

-- whatever ends with an LF is whole
pub whole_feed : (p : List ℕ) → Whole (p ++ line_feed ∷ [])
unfolding lines
whole_feed [] more = refl
whole_feed (b ∷ []) more = by_test (eqb b line_feed) (λ e. rw (e, lines)) (λ e. rw (e, lines))
whole_feed (b ∷ c ∷ p) more =
    by_test (eqb b line_feed)
    (λ e. rw (e, lines) (ap (λ (ls : List Line). record { bytes = []; ended = true } ∷ ls) (whole_feed (c ∷ p) more)))
    (λ e. rw (e, lines) (ap (push b) (whole_feed (c ∷ p) more) ∙ push_append b c (p ++ line_feed ∷ []) (lines more)))
