-- The laws of a `go`'s target: line by line, the rows down to its label.
-- Assumes nothing.
use mathlib.Core.Path.{◌≡◌, refl, sym, ap, ◌∙◌}
use mathlib.Core.Bool.{true, false}
use mathlib.Core.List.{List, ◌∷◌}
use Prim.Native.Nat.{ℕ, ◌+◌, ◌≤◌, ◌<◌}
use native.Mathlib.Nat.{add-zero, zero-add}
use native.Mathlib.Omega.{arith}
use lib.ListN.{length}
use Rattle.std.specs.Prelude.{Option, Some, None}
use Rattle.characters.specs.Ascii.{line_feed}
use Rattle.text_fields.specs.Fields.{before, after, Line, lines}
use Rattle.text_fields.specs.Rests.{first_line}
use Rattle.text_fields.proofs.Lines.{first_line_lem, no_line}
use Rattle.text_targets.specs.Targets.{is_at, is_row, further, passes}

-- no rows further down, and one row more
pub from_none : (t : Option ℕ) → t ≡ further 0 t
from_none (Some n) = ap Some (sym (zero-add n))
from_none None = refl

one_further : (k : ℕ) (t : Option ℕ) → further k (further 1 t) ≡ further (k + 1) t
one_further k (Some n) = ap Some (omega arith)
one_further k None = refl

-- by what the first line is: the label's, a row, or another
module _ (label : List ℕ) (l : Line) (ls : List Line) where
  here : is_at label l.bytes ≡ true → passes label (l ∷ ls) ≡ Some 0
  unfolding passes
  here e = rw (e, passes)

  row : is_at label l.bytes ≡ false → is_row l.bytes ≡ true → passes label (l ∷ ls) ≡ further 1 (passes label ls)
  unfolding passes
  row e f = rw (e, f, passes)

  other : is_at label l.bytes ≡ false → is_row l.bytes ≡ false → passes label (l ∷ ls) ≡ passes label ls
  unfolding passes
  other e f = rw (e, f, passes)

-- the same of what is left of the text, n rows down
module _ (label rest : List ℕ) (n : ℕ) where
  pub arrived : 0 < length rest → is_at label (before line_feed rest) ≡ true → further n (passes label (lines rest)) ≡ Some n
  arrived h e =
      ap (λ (ls : List Line). further n (passes label ls)) (first_line_lem rest h)
      ∙ ap (further n) (here label (first_line rest) (lines (after line_feed rest)) e)
      ∙ ap Some (add-zero n)

  pub past_row : 0 < length rest → is_at label (before line_feed rest) ≡ false → is_row (before line_feed rest) ≡ true
      → further n (passes label (lines rest)) ≡ further (n + 1) (passes label (lines (after line_feed rest)))
  past_row h e f =
      ap (λ (ls : List Line). further n (passes label ls)) (first_line_lem rest h)
      ∙ ap (further n) (row label (first_line rest) (lines (after line_feed rest)) e f)
      ∙ one_further n (passes label (lines (after line_feed rest)))

  pub past_other : 0 < length rest → is_at label (before line_feed rest) ≡ false → is_row (before line_feed rest) ≡ false
      → further n (passes label (lines rest)) ≡ further n (passes label (lines (after line_feed rest)))
  past_other h e f =
      ap (λ (ls : List Line). further n (passes label ls)) (first_line_lem rest h)
      ∙ ap (further n) (other label (first_line rest) (lines (after line_feed rest)) e f)

  pub nowhere : length rest ≤ 0 → further n (passes label (lines rest)) ≡ None
  unfolding passes
  nowhere h = ap (λ (ls : List Line). further n (passes label ls)) (no_line rest h)
