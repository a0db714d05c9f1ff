-- What brackets, Not, rotations and the other operators make of what was read, over any tree: a law for each way out.
-- Assumes nothing.
use mathlib.Core.Path.{◌≡◌, refl, sym, ap, ◌∙◌}
use mathlib.Core.Bool.{Bool, true, false}
use mathlib.Core.List.{List, [], ◌∷◌, ◌++◌}
use Prim.Native.Nat.{ℕ, ◌+◌, ◌*◌, ◌≤◌, ◌<◌}
use native.Mathlib.Omega.{arith}
use lib.Dec.{eqb}
use lib.ListN.{length}
use lib.Seq.{sets}
use borrow.Author.Tests.{le-leb, lt-leb}
use Rattle.std.specs.Prelude.{Option, Some, None}
use Rattle.word.specs.Word.{word_bits, widest}
use Rattle.text_constants.specs.Constants.{decimal_at, plain}
use Rattle.text_constants.specs.declared.Number.{Number}
use Rattle.characters.specs.declared.Class.TheVariants.{Space}
use Rattle.characters.proofs.Runs.{onward}
use Rattle.text_code.specs.declared.Cursor.{Cursor}
use Rattle.text_operators.specs.Operators.{table, row_of, entry_in, width_by}
use Rattle.text_operators.proofs.Rows.{row_is}
use Rattle.text_code.specs.Tree.{Expr, memory, complemented, rotated, binary, width, largest_count}
use Rattle.text_tokens.specs.Tokens.{skip, next}
use Rattle.text_tokens.specs.Signs.{square_close}
use Rattle.text_code.specs.Readings.{Reading, read, outside, limited, closed, not_of, rotation_of, joined}
use Rattle.text_code.specs.Code.{code_of}
use Rattle.text_code.specs.Met.{Held, Meets, Made, Behind, Combined, UnderNot, part}
use Rattle.text_constants.proofs.Places.{Past}
use Rattle.text_code.proofs.Parts.{met, behind, over, over_both, is_limited, too_wide}

-- brackets: the closing byte stands next or not, and it is the square one or the round one
module _ (s : List ℕ) (close : ℕ) (c : Cursor) (w : ℕ) (now : List ℕ) where
  abbrev shut : Bool
  shut = eqb (next s c.place) close

  abbrev end : ℕ
  end = skip s c.place + 1

  -- the table with the memory word's own word, and the cursor behind a bracket that has none
  abbrev with_memory_lem : List ℕ
  with_memory_lem = sets now (4 * c.words) (3 ∷ 0 ∷ 0 ∷ 0 ∷ [])

  abbrev behind_bracket : Cursor
  behind_bracket = record { place = end; words = c.words; pieces = c.pieces }

  unclosed_is : (t : Expr) (p : ℕ) → c.place ≡ p → shut ≡ false → closed s close (read t p) ≡ outside
  unfolding closed
  unclosed_is t p e f = ap (λ (q : ℕ). closed s close (read t q)) (sym e) ∙ rw (f, closed)

  closed_is : (t : Expr) (p : ℕ) (b : Bool) → c.place ≡ p → shut ≡ true → eqb close square_close ≡ b
      → closed s close (read t p) ≡ read (elim b [ true ↦ memory t | false ↦ t ]) end
  unfolding closed
  closed_is t p b e f g = ap (λ (q : ℕ). closed s close (read t q)) (sym e) ∙ rw (f, closed) (ap (λ (z : Bool). read (elim z [ true ↦ memory t | false ↦ t ]) end) g)

  open_meets : (after : List ℕ) → shut ≡ false → (x : Reading) (from : Cursor) (before : List ℕ)
      → Meets x (Some (part c w)) from before now → Meets (closed s close x) None from before after
  open_meets after f (read t p) from before h = met (closed s close (read t p)) outside None from before after (unclosed_is t p h.place_is f) tt
  open_meets after f outside from before h = absurd h

  square_meets : shut ≡ true → eqb close square_close ≡ true → (x : Reading) (from : Cursor) (before : List ℕ)
      → Meets x (Some (part c w)) from before now → Meets (closed s close x) (Some (part (behind c end 1) word_bits)) from before with_memory_lem
  unfolding code_of
  square_meets f g (read t p) from before h =
      met (closed s close (read t p)) (read (memory t) end) (Some (part (behind c end 1) word_bits)) from before with_memory_lem
      (closed_is t p true h.place_is f g)
      (over t (memory t) p end (3 ∷ 0 ∷ 0 ∷ 0 ∷ []) 1 c w from before now refl refl refl h)
  square_meets f g outside from before h = absurd h

  round_meets : shut ≡ true → eqb close square_close ≡ false → (x : Reading) (from : Cursor) (before : List ℕ)
      → Meets x (Some (part c w)) from before now → Meets (closed s close x) (Some (part behind_bracket w)) from before now
  round_meets f g (read t p) from before h =
      met (closed s close (read t p)) (read t end) (Some (part behind_bracket w)) from before now
      (closed_is t p false h.place_is f g)
      (record { place_is = refl; width_is = h.width_is; pieces_are = h.pieces_are; words_are = h.words_are; code_is = h.code_is })
  round_meets f g outside from before h = absurd h

  pub left_open : (a b d : ℕ) (after : List ℕ) → shut ≡ false → Made (closed s close) s a b d (part c w) None now after
  left_open a b d after f = record { meets = open_meets after f; grown = tt }

  pub square : shut ≡ true → eqb close square_close ≡ true → skip s c.place < length s
      → Made (closed s close) s (c.place + 1) (c.words + 1) (c.pieces + 1) (part c w) (Some (part (behind c end 1) word_bits)) now with_memory_lem
  square f g h = record { meets = square_meets f g; grown = omega (arith, onward Space s c.place) }

  pub round : shut ≡ true → eqb close square_close ≡ false → skip s c.place < length s → w ≤ widest
      → Made (closed s close) s (c.place + 1) (c.words + 1) (c.pieces + 1) (part c w) (Some (part behind_bracket w)) now now
  round f g h l = record { meets = round_meets f g; grown = omega (arith, onward Space s c.place) }

-- Not
module _ (c : Cursor) (w : ℕ) (now : List ℕ) where
  not_meets : (x : Reading) (from : Cursor) (before : List ℕ) → Meets x (Some (part c w)) from before now
      → Meets (not_of x) (Some (part (behind c c.place 1) w)) from before (sets now (4 * c.words) (4 ∷ w ∷ 0 ∷ 0 ∷ []))
  unfolding not_of code_of
  not_meets (read t p) from before h =
      let o = over t (complemented t) p c.place (4 ∷ w ∷ 0 ∷ 0 ∷ []) 1 c w from before now refl (ap (λ (z : ℕ). code_of t ++ (4 ∷ z ∷ 0 ∷ 0 ∷ [])) (sym h.width_is)) refl h in
      record { place_is = h.place_is; width_is = h.width_is; pieces_are = o.pieces_are; words_are = o.words_are; code_is = o.code_is }
  not_meets outside from before h = absurd h

  pub under_not : UnderNot (part c w) (part (behind c c.place 1) w) now (sets now (4 * c.words) (4 ∷ w ∷ 0 ∷ 0 ∷ []))
  under_not = record { meets = not_meets; is = refl }

-- rotations: the count is none, too large, or one
module _ (s : List ℕ) (row at : ℕ) (c : Cursor) (w : ℕ) (now : List ℕ) where
  abbrev count : Option Number
  count = decimal_at s (skip s at)

  abbrev rotating : ℕ → Expr → ℕ → Reading
  rotating f l p = rotation_of row l count

  uncounted : (l : Expr) → count ≡ None → rotation_of row l count ≡ outside
  unfolding rotation_of
  uncounted l e = rw e

  over_counted : (l : Expr) (n p : ℕ) → count ≡ plain n p → largest_count < n → rotation_of row l count ≡ outside
  unfolding rotation_of
  over_counted l n p e h = rw (e, lt-leb n largest_count h, rotation_of)

  counted : (l : Expr) (n p : ℕ) → count ≡ plain n p → n ≤ largest_count → rotation_of row l count ≡ read (rotated (entry_in row).operator l n) p
  unfolding rotation_of
  counted l n p e h = rw (e, le-leb n largest_count h, rotation_of)

  unrotated : (a b d : ℕ) (after : List ℕ) → ((l : Expr) → rotation_of row l count ≡ outside) → Behind 0 rotating s a b d (part c w) None now after
  unrotated a b d after e =
      record { meets = λ l p from before h f n. met (rotation_of row l count) outside None from before after (e l) tt; grown = tt }

  pub no_count : (a b d : ℕ) (after : List ℕ) → count ≡ None → Behind 0 rotating s a b d (part c w) None now after
  no_count a b d after e = unrotated a b d after (λ l. uncounted l e)

  pub large_count : (a b d : ℕ) (after : List ℕ) (n p : ℕ) → count ≡ plain n p → largest_count < n → Behind 0 rotating s a b d (part c w) None now after
  large_count a b d after n p e h = unrotated a b d after (λ l. over_counted l n p e h)

  pub rotates : (n p : ℕ) → count ≡ plain n p → n ≤ largest_count → row < length table → w ≤ widest → Past s at p → c.place < at
      → Behind 0 rotating s (at + 1) (c.words + 2) (c.pieces + 2) (part c w) (Some (part (behind c p 2) w)) now (sets now (4 * c.words) ((4 + row) ∷ w ∷ n ∷ 0 ∷ []))
  unfolding code_of
  rotates n p e h r l o i =
      record {
        meets =
            λ l q from before g f m.
            let v = over l (rotated (entry_in row).operator l n) q p ((4 + row) ∷ w ∷ n ∷ 0 ∷ []) 2 c w from before now refl (word l g.width_is) refl g in
            met (rotation_of row l count) (read (rotated (entry_in row).operator l n) p) (Some (part (behind c p 2) w)) from before
            (sets now (4 * c.words) ((4 + row) ∷ w ∷ n ∷ 0 ∷ []))
            (counted l n p e h)
            (record { place_is = refl; width_is = g.width_is; pieces_are = v.pieces_are; words_are = v.words_are; code_is = v.code_is });
        grown = omega arith;
      }
    where
      word : (l : Expr) → w ≡ width l → code_of l ++ ((4 + row_of (entry_in row).operator) ∷ width l ∷ n ∷ 0 ∷ []) ≡ code_of l ++ ((4 + row) ∷ w ∷ n ∷ 0 ∷ [])
      word l g = rw (row_is row r, g)

-- the other operators
module _ (row : ℕ) (left : Cursor) (w : ℕ) (right : Cursor) (v : ℕ) (now : List ℕ) where
  abbrev both : ℕ
  both = width_by (entry_in row).widths w v

  abbrev start : ℕ → Cursor
  start q = record { place = q; words = left.words; pieces = left.pieces }

  both_is : row < length table → (l r : Expr) → w ≡ width l → v ≡ width r → width (binary (entry_in row).operator l r) ≡ both
  both_is h l r e g = ap (λ (k : ℕ). width_by (entry_in k).widths (width l) (width r)) (row_is row h) ∙ rw (e, g)

  wide_meets : (after : List ℕ) → row < length table → widest < both → (l : Expr) (x : Reading) (p q : ℕ) (from : Cursor) (before mid : List ℕ)
      → Held l p (part left w) from before mid → Meets x (Some (part right v)) (start q) mid now → Meets (joined row l x) None from before after
  unfolding joined
  wide_meets after h b l (read r z) p q from before mid g m =
      met (limited (binary (entry_in row).operator l r) z) outside None from before after
      (too_wide (binary (entry_in row).operator l r) z (omega (arith, both_is h l r g.width_is m.width_is))) tt
  wide_meets after h b l outside p q from before mid g m = absurd m

  narrow_meets : row < length table → both ≤ widest → (l : Expr) (x : Reading) (p q : ℕ) (from : Cursor) (before mid : List ℕ)
      → Held l p (part left w) from before mid → Meets x (Some (part right v)) (start q) mid now
      → Meets (joined row l x) (Some (part (behind right right.place 1) both)) from before (sets now (4 * right.words) ((4 + row) ∷ w ∷ v ∷ 0 ∷ []))
  unfolding joined code_of
  narrow_meets h b l (read r z) p q from before mid g m =
      let e = both_is h l r g.width_is m.width_is in
      let o = over_both l r (binary (entry_in row).operator l r) p z ((4 + row) ∷ w ∷ v ∷ 0 ∷ []) q left w right v from before mid now refl (word l r g.width_is m.width_is (row_is row h)) refl g m in
      met (limited (binary (entry_in row).operator l r) z) (read (binary (entry_in row).operator l r) z) (Some (part (behind right right.place 1) both)) from before
      (sets now (4 * right.words) ((4 + row) ∷ w ∷ v ∷ 0 ∷ []))
      (is_limited (binary (entry_in row).operator l r) z (omega arith))
      (record { place_is = o.place_is; width_is = sym e; pieces_are = o.pieces_are; words_are = o.words_are; code_is = o.code_is })
    where
      word : (l r : Expr) → w ≡ width l → v ≡ width r → row_of (entry_in row).operator ≡ row
          → code_of l ++ code_of r ++ ((4 + row_of (entry_in row).operator) ∷ width l ∷ width r ∷ 0 ∷ []) ≡ code_of l ++ code_of r ++ ((4 + row) ∷ w ∷ v ∷ 0 ∷ [])
      word l r e f k = rw (k, e, f)
  narrow_meets h b l outside p q from before mid g m = absurd m

  pub joins_not : (after : List ℕ) → row < length table → widest < both → Combined (joined row) (part left w) (part right v) None now after
  joins_not after h b = record { meets = wide_meets after h b; one_more = tt }

  pub joins : row < length table → both ≤ widest
      → Combined (joined row) (part left w) (part right v) (Some (part (behind right right.place 1) both)) now (sets now (4 * right.words) ((4 + row) ∷ w ∷ v ∷ 0 ∷ []))
  joins h b = record { meets = narrow_meets h b; one_more = (refl, b) }
