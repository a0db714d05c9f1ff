-- The laws of parts: what each word that is put into the table makes of what was read, over any tree.
-- Assumes nothing.
use mathlib.Core.Path.{◌≡◌, refl, sym, ap, subst, ◌∙◌}
use mathlib.Core.List.{List, ◌++◌, append_assoc}
use Prim.Native.Nat.{ℕ, ◌+◌, ◌*◌, ◌≤◌, ◌<◌}
use native.Mathlib.Omega.{arith}
use lib.ListN.{length, length-append}
use lib.Seq.{sets}
use borrow.Author.Tests.{le-leb, lt-leb}
use Rattle.std.specs.Prelude.{Option, Some, None}
use Rattle.word.specs.Word.{widest}
use Rattle.text_code.specs.declared.Cursor.{Cursor}
use Rattle.text_code.specs.declared.Part.{Part}
use Rattle.text_code.specs.Tree.{Expr, width, pieces}
use Rattle.text_code.specs.Readings.{Reading, read, outside, limited}
use Rattle.text_code.specs.Code.{code_of}
use Rattle.text_code.specs.Met.{Held, Meets, Leaf, Single, part}
use Rattle.laws.proofs.Lists.{sets_behind}

-- a reading that is known
pub met : (x y : Reading) (r : Option Part) (from : Cursor) (before after : List ℕ) → x ≡ y → Meets y r from before after → Meets x r from before after
met x y r from before after e m = subst (λ (z : Reading). Meets z r from before after) (sym e) m

-- "No width may pass 16"
pub is_limited : (t : Expr) (p : ℕ) → width t ≤ widest → limited t p ≡ read t p
unfolding limited
is_limited t p h = rw (le-leb (width t) widest h, limited)

pub too_wide : (t : Expr) (p : ℕ) → widest < width t → limited t p ≡ outside
unfolding limited
too_wide t p h = rw (lt-leb (width t) widest h, limited)

-- the cursor behind one word and so many pieces more
abbrev pub behind : Cursor → ℕ → ℕ → Cursor
behind c p n = record { place = p; words = c.words + 1; pieces = c.pieces + n }

-- a tree u that puts one word behind the words of t
pub over : (t u : Expr) (p q : ℕ) (word : List ℕ) (n : ℕ) (c : Cursor) (w : ℕ) (from : Cursor) (before now : List ℕ)
    → length word ≡ 4 → code_of u ≡ code_of t ++ word → pieces u ≡ pieces t + n → Held t p (part c w) from before now
    → Held u q (part (behind c q n) (width u)) from before (sets now (4 * c.words) word)
over t u p q word n c w from before now four e m h =
    record {
      place_is = refl;
      width_is = refl;
      pieces_are = omega (arith, h.pieces_are);
      words_are = omega (arith, h.words_are, ap length e, length-append (code_of t) word);
      code_is =
          ap (λ (l : List ℕ). sets l (4 * c.words) word) h.code_is
          ∙ sets_behind before (4 * from.words) (4 * c.words) (code_of t) word h.words_are
          ∙ ap (sets before (4 * from.words)) (sym e);
    }

-- a tree u that puts one word behind the words of l and r
pub over_both : (l r u : Expr) (p q : ℕ) (word : List ℕ) (x : ℕ) (left : Cursor) (w : ℕ) (right : Cursor) (v : ℕ) (from : Cursor) (before mid now : List ℕ)
    → length word ≡ 4 → code_of u ≡ code_of l ++ code_of r ++ word → pieces u ≡ pieces l + pieces r + 1
    → Held l p (part left w) from before mid → Held r q (part right v) (record { place = x; words = left.words; pieces = left.pieces }) mid now
    → Held u q (part (behind right right.place 1) (width u)) from before (sets now (4 * right.words) word)
over_both l r u p q word x left w right v from before mid now four e m hl hr =
    record {
      place_is = hr.place_is;
      width_is = refl;
      pieces_are = omega (arith, hl.pieces_are, hr.pieces_are);
      words_are = omega (arith, hl.words_are, hr.words_are, ap length e, length-append (code_of l) (code_of r), length-append (code_of l ++ code_of r) word);
      code_is =
          ap (λ (z : List ℕ). sets z (4 * right.words) word) hr.code_is
          ∙ sets_behind mid (4 * left.words) (4 * right.words) (code_of r) word hr.words_are
          ∙ ap (λ (z : List ℕ). sets z (4 * left.words) (code_of r ++ word)) hl.code_is
          ∙ sets_behind before (4 * from.words) (4 * left.words) (code_of l) (code_of r ++ word) hl.words_are
          ∙ ap (sets before (4 * from.words)) (sym (append_assoc (code_of l) (code_of r) word) ∙ sym e);
    }

-- a tree of one word that is narrow enough, one that isn't, and none
module _ (from : Cursor) (before : List ℕ) (p w : ℕ) where
  pub leaf : (word : List ℕ) → length word ≡ 4 → w ≤ widest
      → Single p w word (Some (part (behind from p 1) w)) from before (sets before (4 * from.words) word)
  leaf word four h x t s e v code n o i =
      record {
        meets =
            met x (read t p) (Some (part (behind from p 1) w)) from before (sets before (4 * from.words) word)
            (e ∙ is_limited t p (subst (λ (z : ℕ). z ≤ widest) v h))
            (record {
              place_is = refl;
              width_is = v;
              pieces_are = ap (λ (z : ℕ). from.pieces + z) (sym n);
              words_are = omega (arith, ap length code);
              code_is = ap (sets before (4 * from.words)) code;
            });
        grown = omega arith;
      }

  pub wide_leaf : (word after : List ℕ) → widest < w → Single p w word None from before after
  wide_leaf word after h x t s e v code n o i =
      record { meets = met x outside None from before after (e ∙ too_wide t p (subst (λ (z : ℕ). widest < z) v h)) tt; grown = tt }

pub no_leaf : (x : Reading) (s : List ℕ) (a words pieces : ℕ) (from : Cursor) (before after : List ℕ) → x ≡ outside → Leaf x s a words pieces None from before after
no_leaf x s a words pieces from before after e = record { meets = met x outside None from before after e tt; grown = tt }
