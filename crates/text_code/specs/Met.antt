-- What a part's reading promises: that it is the grammar's, and that the table holds the words of the tree.
-- Assumes nothing.
use Rattle.std.specs.Prelude.{◌≡◌, List, ℕ, ◌+◌, ◌*◌, ◌≤◌, ◌<◌, length, Option, Some, None}
use Rattle.std.proofs.lemmas.List.Edits.{sets}
use Rattle.word.specs.Word.{widest}
use Rattle.text_limits.specs.Limits.{all_pieces, longest_line}
use Rattle.text_code.specs.declared.Cursor.{Cursor}
use Rattle.text_code.specs.declared.Part.{Part}
use Rattle.text_code.specs.Tree.{Expr, width, pieces}
use Rattle.text_code.specs.Readings.{Reading, read, outside, limited, not_of}
use Rattle.text_code.specs.Code.{code_of}

-- how many words the table holds: 1,024 pieces, and a line of 200 bytes, each of which makes at most one
abbrev pub capacity : ℕ
capacity = all_pieces + longest_line

-- a part that was read, by the cursor behind it and its width
abbrev pub part : Cursor → ℕ → Part
part c w = record { end = c; width = w }

-- a tree that was read from a cursor on: where it ends, its width, its pieces and words counted, and its words in the table
pub record Held (t : Expr) (p : ℕ) (r : Part) (from : Cursor) (before after : List ℕ) : Type 0 where
  pub place_is : r.end.place ≡ p
  pub width_is : r.width ≡ width t
  pub pieces_are : r.end.pieces ≡ from.pieces + pieces t
  pub words_are : 4 * r.end.words ≡ 4 * from.words + length (code_of t)
  pub code_is : after ≡ sets before (4 * from.words) (code_of t)

-- the code's answer to a reading of the grammar
abbrev pub Meets : Reading → Option Part → Cursor → List ℕ → List ℕ → Type 0
Meets (read t p) (Some r) from before after = Held t p r from before after
Meets (read t p) None from before after = ⊥
Meets outside (Some r) from before after = ⊥
Meets outside None from before after = Unit {0}

-- room for what can still be read, and so much to spare: a piece and a word cost at least a byte
pub record Room (s : List ℕ) (c : Cursor) (spare : ℕ) : Type 0 where
  pub place_in : c.place ≤ length s
  pub words_fit : c.words + spare + length s ≤ capacity + c.place
  pub pieces_fit : c.pieces + spare + length s ≤ capacity + c.place

-- what an answer takes: it ends at a or later, with at most so many words and pieces, and one more for each byte after a
pub record Taken (s : List ℕ) (a words pieces : ℕ) (r : Part) : Type 0 where
  pub onward : a ≤ r.end.place
  pub inside : r.end.place ≤ length s
  pub words_most : r.end.words + a ≤ words + r.end.place
  pub pieces_most : r.end.pieces + a ≤ pieces + r.end.place
  pub narrow : r.width ≤ widest

-- the same of an answer that may be none
abbrev pub Grown : List ℕ → ℕ → ℕ → ℕ → Option Part → Type 0
Grown s a words pieces (Some r) = Taken s a words pieces r
Grown s a words pieces None = Unit {0}

-- a part that is read from a cursor on, without going deeper
pub record Leaf (x : Reading) (s : List ℕ) (a words pieces : ℕ) (r : Option Part) (from : Cursor) (before after : List ℕ) : Type 0 where
  pub meets : Meets x r from before after
  pub grown : Grown s a words pieces r

-- a tree of one word that ends at a place, whatever it is
abbrev pub Single : ℕ → ℕ → List ℕ → Option Part → Cursor → List ℕ → List ℕ → Type 0
Single p w word r from before after =
    (x : Reading) (t : Expr) (s : List ℕ) → x ≡ limited t p → w ≡ width t → word ≡ code_of t → pieces t ≡ 1 → from.place < p → p ≤ length s
    → Leaf x s (from.place + 1) (from.words + 1) (from.pieces + 1) r from before after

-- a part that is made of one that was read, whatever that was
pub record Made (g : Reading → Reading) (s : List ℕ) (a words pieces : ℕ) (q : Part) (r : Option Part) (now after : List ℕ) : Type 0 where
  pub meets : (x : Reading) (from : Cursor) (before : List ℕ) → Meets x (Some q) from before now → Meets (g x) r from before after
  pub grown : Grown s a words pieces r

-- a part that is read behind a left side, whatever that is
pub record Behind (need : ℕ) (g : ℕ → Expr → ℕ → Reading) (s : List ℕ) (a words pieces : ℕ) (q : Part) (r : Option Part) (now after : List ℕ) : Type 0 where
  pub meets : (l : Expr) (p : ℕ) (from : Cursor) (before : List ℕ) → Held l p q from before now
      → (f : ℕ) → need ≤ f → Meets (g f l p) r from before after
  pub grown : Grown s a words pieces r

-- one word and one piece more, at the same place
abbrev pub OneMore : Cursor → Option Part → Type 0
OneMore right (Some r) = (r.end ≡ record { place = right.place; words = right.words + 1; pieces = right.pieces + 1 }) × (r.width ≤ widest)
OneMore right None = Unit {0}

-- an operand put under a Not, whatever it is
pub record UnderNot (q r : Part) (now after : List ℕ) : Type 0 where
  pub meets : (x : Reading) (from : Cursor) (before : List ℕ) → Meets x (Some q) from before now → Meets (not_of x) (Some r) from before after
  pub is : r ≡ part (record { place = q.end.place; words = q.end.words + 1; pieces = q.end.pieces + 1 }) q.width

-- a right side put behind a left side, whatever the two are
pub record Combined (g : Expr → Reading → Reading) (left right : Part) (r : Option Part) (now after : List ℕ) : Type 0 where
  pub meets : (l : Expr) (x : Reading) (p q : ℕ) (from : Cursor) (before mid : List ℕ) → Held l p left from before mid
      → Meets x (Some right) (record { place = q; words = left.end.words; pieces = left.end.pieces }) mid now → Meets (g l x) r from before after
  pub one_more : OneMore right.end r
