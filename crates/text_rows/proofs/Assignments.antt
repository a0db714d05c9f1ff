-- The laws of a `do` line's parts: destination, value, and the row that they make.
-- Assumes nothing.
use mathlib.Core.Path.{◌≡◌, refl, sym, ap, subst, ◌∙◌}
use mathlib.Core.List.{List, [], ◌++◌}
use Prim.Native.Nat.{ℕ, ◌+◌, ◌*◌, ◌≤◌}
use native.Mathlib.Omega.{arith}
use lib.ListN.{length, length-append}
use lib.Seq.{sets}
use Rattle.std.specs.Prelude.{Option, Some, None}
use Rattle.text_fields.specs.Fields.{field}
use Rattle.characters.specs.Named.{Named}
use Rattle.text_code.specs.declared.Cursor.{Cursor}
use Rattle.text_code.specs.Tree.{Expr, Destination, to_register, to_part, to_memory}
use Rattle.text_code.specs.Code.{code_of}
use Rattle.text_code.specs.Readings.{Reading, read, outside, DestinationReading, leads, astray}
use Rattle.text_expression.specs.Expression.{expression, destination}
use Rattle.text_code.specs.Met.{Held, part}
use Rattle.text_expression.specs.Met.{Aims}
use Rattle.text_expression.specs.declared.Place.{Place}
use Rattle.text_expression.specs.declared.Place.TheVariants.{Register, Bits, Word}
use Rattle.text_expression.proofs.Formed.{ordered}
use Rattle.laws.proofs.Lists.{sets_behind}
use Rattle.text_declaration.specs.Rows.{Row, does, address_pieces}
use Rattle.text_rows.specs.declared.cells.Aim.{Aim}
use Rattle.text_rows.specs.declared.actions.RowRead.{RowRead}
use Rattle.text_rows.specs.Cells.{address_code, row_code, kind_of, register_of, right_of, size_of, cells_of, do_cells}
use Rattle.text_rows.specs.Stored.{Aiming, Aimed, Rows, Acts, formed, unformed, do_row, HasRow, InOrder, aim_of}
use Rattle.text_rows.proofs.RowLines.{ReadAs}

-- the cells of a destination whose address reaches to end
abbrev cells_of_lem : Destination → Cursor → Aim
cells_of_lem d end = record { kind = kind_of d; register = register_of d; right = right_of d; size = size_of d; end = end }

module _ (x : DestinationReading) (s : List ℕ) (from : Cursor) (now after : List ℕ) where
  -- a destination whose address has its pieces and words behind those before it
  aims_at : (d : Destination) (end : Cursor) → x ≡ leads d → end.pieces ≡ from.pieces + address_pieces d
      → 4 * end.words ≡ 4 * from.words + length (address_code d) → after ≡ sets now (4 * from.words) (address_code d)
      → end.words ≤ from.words + length s → end.pieces ≤ from.pieces + length s
      → Aimed x s (Some (cells_of_lem d end)) from now after
  aims_at d end e counted reached stored few_words few_pieces =
      subst (λ (z : DestinationReading). Aimed z s (Some (cells_of_lem d end)) from now after) (sym e)
      (record {
        to = d;
        is = refl;
        aiming = record {
          kind_is = refl;
          register_is = refl;
          right_is = refl;
          size_is = refl;
          pieces_are = counted;
          words_are = reached;
          code_is = stored;
          words_few = few_words;
          pieces_few = few_pieces;
        };
      })

  -- a register or a bit part has no address
  aims_plain : (d : Destination) → x ≡ leads d → address_pieces d ≡ 0 → address_code d ≡ [] → after ≡ now
      → Aimed x s (Some (cells_of_lem d from)) from now after
  aims_plain d e no_pieces no_words same =
      aims_at d from e (omega (arith, no_pieces)) (omega (arith, ap length no_words))
      (same ∙ ap (sets now (4 * from.words)) (sym no_words)) (omega arith) (omega arith)

  -- the cells of a place are those of its destination
  pub aimed : (p : Place) → Aims (Some p) x s (record { place = 0; words = from.words; pieces = from.pieces }) now after → Aimed x s (Some (aim_of p from)) from now after
  aimed (Register r w) y = aims_plain (to_register r w) y.0 refl refl y.1
  aimed (Bits r w a b) y = aims_plain (to_part r w a b) y.0 refl refl y.1
  aimed (Word c) y = aims_at (to_memory y.tree) c y.is y.pieces_are y.words_are y.code_is y.words_few y.pieces_few

-- the bits of a part that was read stand in their order
pub in_order : (rs : List Named) (s : List ℕ) (from : Cursor) (now after : List ℕ) (p : Place) → Aims (Some p) (destination rs s) s from now after → InOrder p
in_order rs s from now after (Register r w) y = tt
in_order rs s from now after (Bits r w a b) y = ordered rs s r w a b y.0
in_order rs s from now after (Word c) y = tt

-- the row of a `do` line, and what is missing where there is none
row_formed : (c e : Expr) (x y : ℕ) (d : Destination) (r : DestinationReading) (v : Reading) → r ≡ leads d → v ≡ read e y
    → do_row (read c x) r v ≡ formed (does c d e)
unfolding do_row
row_formed c e x y d r v i j = rw (i, j)

pub no_value : (c : Expr) (x : ℕ) (d : DestinationReading) (v : Reading) → v ≡ outside → do_row (read c x) d v ≡ unformed
unfolding do_row
no_value c x (leads d) v e = rw e
no_value c x astray v e = refl

pub no_destination : (c : Expr) (x : ℕ) (d : DestinationReading) (v : Reading) → d ≡ astray → do_row (read c x) d v ≡ unformed
unfolding do_row
no_destination c x d v e = rw e

pub no_condition : (d : DestinationReading) (v w : Reading) → w ≡ outside → do_row w d v ≡ unformed
unfolding do_row
no_condition d v w e = rw e

-- condition, address and value, one behind the other
module _ (c : Expr) (x w : ℕ) (from condition : Cursor) (before now : List ℕ) (h : Held c x (part condition w) from before now)
    (d : Destination) (s : List ℕ) (aim : Aim) (mid : List ℕ) (a : Aiming d s aim condition now mid)
    (v : Reading) (end : Cursor) (u : ℕ) (after : List ℕ) (at : ℕ)
    (k : ReadAs v end u (record { place = at; words = aim.end.words; pieces = aim.end.pieces }) mid after) where
  abbrev row : Row
  row = does c d k.tree

  words : 4 * end.words ≡ 4 * from.words + length (row_code row)
  words =
      let all = length-append (code_of c) (address_code d ++ code_of k.tree) in
      omega (arith, h.words_are, a.words_are, k.held.words_are, all, length-append (address_code d) (code_of k.tree))

  stored : after ≡ sets before (4 * from.words) (row_code row)
  stored =
      k.held.code_is
      ∙ ap (λ (l : List ℕ). sets l (4 * aim.end.words) (code_of k.tree)) a.code_is
      ∙ sets_behind now (4 * condition.words) (4 * aim.end.words) (address_code d) (code_of k.tree) a.words_are
      ∙ ap (λ (l : List ℕ). sets l (4 * condition.words) (address_code d ++ code_of k.tree)) h.code_is
      ∙ sets_behind before (4 * from.words) (4 * condition.words) (code_of c) (address_code d ++ code_of k.tree) h.words_are

  cells : do_cells from.words condition.words aim end.words ≡ cells_of (4 * from.words) row
  cells = rw (k.held.words_are, a.words_are, h.words_are, a.kind_is, a.register_is, a.right_is, a.size_is)

  pub row_forms : (start : ℕ) (r : RowRead) (z : DestinationReading) → z ≡ leads d → from.words ≡ start → r.cells ≡ do_cells start condition.words aim end.words → r.end ≡ end
      → HasRow (do_row (read c x) z v) r from before after
  row_forms start r z j f g i =
      record {
        row = row;
        is = row_formed c k.tree x k.place d z v j k.is;
        forms = record {
          cells_are = g ∙ ap (λ (n : ℕ). do_cells n condition.words aim end.words) (sym f) ∙ cells;
          pieces_are = omega (arith, ap (λ (z : Cursor). z.pieces) i, h.pieces_are, a.pieces_are, k.held.pieces_are);
          words_are = ap (λ (z : Cursor). 4 * z.words) i ∙ words;
          code_is = stored;
        };
      }

-- fields that the code holds
module _ (rs : List Named) (s : List ℕ) (r : RowRead) (from : Cursor) (before after : List ℕ) where
  pub with_fields : (c : Expr) (x : ℕ) (f g : List ℕ) → f ≡ field 2 s → g ≡ field 3 s
      → HasRow (do_row (read c x) (destination rs f) (expression rs g)) r from before after
      → HasRow (do_row (read c x) (destination rs (field 2 s)) (expression rs (field 3 s))) r from before after
  with_fields c x f g e i h = rw (← e, ← i) h

-- a row behind a condition that was read, whatever comes of it
pub acted : (rs : List Named) (s : List ℕ) (from condition : Cursor) (w : ℕ) (before now after : List ℕ) (f : List ℕ) → f ≡ field 1 s
    → ReadAs (expression rs f) condition w from before now → (r : Option RowRead) → Acts rs s from.words condition r now after → Rows rs s from r before after
acted rs s from condition w before now after f e k (Some r) h =
    rw (← e, k.is) (h k.tree k.place w from before refl k.held)
acted rs s from condition w before now after f e k None h =
    rw (← e, k.is) (h k.tree k.place)
