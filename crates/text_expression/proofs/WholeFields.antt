-- The laws of whole fields: what was read is the field's expression exactly where it ends with the field and has few enough pieces.
-- Assumes nothing.
use mathlib.Core.Path.{◌≡◌, refl, sym, ap, subst, ◌∙◌}
use mathlib.Core.Bool.{Bool, true, false, ◌&&◌}
use mathlib.Core.List.{List}
use Prim.Native.Nat.{ℕ, ◌+◌}
use native.Mathlib.Omega.{arith}
use lib.Dec.{eqb, leb}
use lib.ListN.{length}
use borrow.Author.Tests.{le-leb, lt-leb, leb-true, leb-false}
use Rattle.std.specs.Prelude.{Option, Some, None}
use Rattle.characters.specs.Named.{Named}
use Rattle.laws.proofs.Tests.{by_test}
use Rattle.text_code.specs.declared.Cursor.{Cursor}
use Rattle.text_code.specs.declared.Part.{Part}
use Rattle.text_operators.specs.Operators.{weakest}
use Rattle.text_code.specs.Tree.{Expr, pieces, most_pieces}
use Rattle.text_code.specs.Readings.{Reading, read, outside}
use Rattle.text_grammar.specs.Grammar.{level, fuel}
use Rattle.text_expression.specs.Fields.{trimmed}
use Rattle.text_expression.specs.Expression.{whole, expression}
use Rattle.text_code.specs.Met.{Held, Meets, Taken, Grown, part}
use Rattle.text_expression.specs.Met.{Same, Whole}
use Rattle.text_code.proofs.Parts.{met}

-- by the definition's test
module _ (s : List ℕ) (t : Expr) (p : ℕ) where
  pub all_of_it : eqb p (length s) && leb (pieces t) most_pieces ≡ true → whole s (read t p) ≡ read t p
  unfolding whole
  all_of_it e = rw (e, whole)

  not_all : eqb p (length s) && leb (pieces t) most_pieces ≡ false → whole s (read t p) ≡ outside
  unfolding whole
  not_all e = rw (e, whole)

-- "at most 32", of an expression's own pieces and of the count behind those before it
pub few_pieces : (n k m : ℕ) → m ≡ n + k → leb k most_pieces ≡ leb m (n + most_pieces)
few_pieces n k m e =
    by_test (leb k most_pieces)
    (λ t. t ∙ sym (le-leb m (n + most_pieces) (omega (arith, leb-true k most_pieces t))))
    (λ t. t ∙ sym (lt-leb m (n + most_pieces) (omega (arith, leb-false k most_pieces t))))

module _ (s : List ℕ) (c : Cursor) (w n : ℕ) where
  abbrev ends : ℕ → Bool
  ends q = eqb q (length s) && leb c.pieces (n + most_pieces)

  -- the definition's test is the code's
  same_test : (t : Expr) (p : ℕ) (from : Cursor) (before after : List ℕ) → from.pieces ≡ n → Held t p (part c w) from before after
      → eqb p (length s) && leb (pieces t) most_pieces ≡ ends c.place
  same_test t p from before after f h =
      ap (λ (b : Bool). eqb p (length s) && b) (few_pieces n (pieces t) c.pieces (h.pieces_are ∙ ap (λ (k : ℕ). k + pieces t) f))
      ∙ ap ends (sym h.place_is)

  -- so what was read is the whole field's where the code's test holds, and the field is outside the rules where it doesn't
  taken : ends c.place ≡ true → (x : Reading) (from : Cursor) (before after : List ℕ) → from.pieces ≡ n → Meets x (Some (part c w)) from before after
      → Meets (whole s x) (Some (part c w)) from before after
  taken e (read t p) from before after f h =
      met (whole s (read t p)) (read t p) (Some (part c w)) from before after (all_of_it s t p (same_test t p from before after f h ∙ e)) h
  taken e outside from before after f h = absurd h

  left : ends c.place ≡ false → (x : Reading) (from : Cursor) (before after : List ℕ) → from.pieces ≡ n → Meets x (Some (part c w)) from before after
      → Meets (whole s x) None from before after
  left e (read t p) from before after f h =
      met (whole s (read t p)) outside None from before after (not_all s t p (same_test t p from before after f h ∙ e)) tt
  left e outside from before after f h = absurd h

  pub is_whole : ends c.place ≡ true → Whole s (part c w) n (Some (part c w))
  is_whole e = record { meets = taken e; is = refl }

  pub is_part : ends c.place ≡ false → Whole s (part c w) n None
  is_part e = record { meets = left e; is = tt }

  -- what the whole takes is what the part took
  pub same_growth : (a m k : ℕ) (r : Option Part) → Taken s a m k (part c w) → Same (part c w) r → Grown s a m k r
  same_growth a m k (Some r) g o = subst (Taken s a m k) (sym o) g
  same_growth a m k None g o = tt

-- a field's expression
module _ (rs : List Named) (s : List ℕ) where
  pub trims : trimmed s ≡ true → expression rs s ≡ whole s (level (fuel s) rs s 0 weakest 0)
  unfolding expression
  trims e = rw (e, expression)

  pub untrimmed : trimmed s ≡ false → expression rs s ≡ outside
  unfolding expression
  untrimmed e = rw (e, expression)
