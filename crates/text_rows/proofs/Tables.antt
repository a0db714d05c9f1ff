-- The laws of the tables: a row's cells stored one by one, and a row more behind the others.
-- Assumes nothing.
use mathlib.Core.Path.{◌≡◌, refl, sym, ap, ◌∙◌}
use mathlib.Core.List.{List, [], ◌∷◌, ◌++◌, append-nil, append_assoc}
use Prim.Native.Nat.{ℕ, ◌+◌, ◌*◌, ◌≤◌}
use native.Mathlib.Nat.{add-zero, zero-add}
use native.Mathlib.Omega.{arith}
use lib.ListN.{length, length-append}
use lib.Seq.{sets}
use Rattle.text_code.specs.Code.{code_of}
use Rattle.text_code.specs.Tree.{Destination, to_register, to_part, to_memory}
use Rattle.laws.proofs.Lists.{sets_behind}
use Rattle.text_code.proofs.Pieces.{code_pieces}
use Rattle.text_declaration.specs.Rows.{Row, does, goes, row_pieces, pieces_of, address_pieces}
use Rattle.text_declaration.specs.declared.lines.Progress.{Progress}
use Rattle.text_code.specs.RowTable.{row_cells}
use Rattle.text_rows.specs.Cells.{address_code, row_code, code, cells_of, cells}
use Rattle.text_rows.specs.Stored.{Tables}

-- a word costs a piece
pub row_code_pieces : (row : Row) → length (row_code row) ≤ 4 * row_pieces row
row_code_pieces (does c d e) =
    omega (arith, length-append (code_of c) (address_code d ++ code_of e), length-append (address_code d) (code_of e), code_pieces c, address_pieces_lem d, code_pieces e)
  where
    address_pieces_lem : (x : Destination) → length (address_code x) ≤ 4 * address_pieces x
    address_pieces_lem (to_register r w) = omega arith
    address_pieces_lem (to_part r w a b) = omega arith
    address_pieces_lem (to_memory t) = code_pieces t
row_code_pieces (goes c n) = code_pieces c

-- a row behind the others
code_snoc : (rs : List Row) (row : Row) → code (rs ++ (row ∷ [])) ≡ code rs ++ row_code row
unfolding code
code_snoc [] row = append-nil (row_code row)
code_snoc (r ∷ rs) row = ap (λ (l : List ℕ). row_code r ++ l) (code_snoc rs row) ∙ sym (append_assoc (row_code r) (code rs) (row_code row))

cells_snoc : (rs : List Row) (row : Row) (at : ℕ) → cells at (rs ++ (row ∷ [])) ≡ cells at rs ++ cells_of (at + length (code rs)) row
unfolding code cells
cells_snoc [] row at = append-nil (cells_of at row) ∙ ap (λ (k : ℕ). cells_of k row) (sym (add-zero at))
cells_snoc (r ∷ rs) row at =
    ap (λ (l : List ℕ). cells_of at r ++ l) (cells_snoc rs row (at + length (row_code r)))
    ∙ sym (append_assoc (cells_of at r) (cells (at + length (row_code r)) rs) (cells_of (at + length (row_code r) + length (code rs)) row))
    ∙ ap (λ (k : ℕ). cells_of at r ++ cells (at + length (row_code r)) rs ++ cells_of k row) (omega (arith, length-append (row_code r) (code rs)))

pub row_length : (at : ℕ) (row : Row) → length (cells_of at row) ≡ row_cells
row_length at (does c d e) = refl
row_length at (goes c n) = refl

pub cells_length : (rs : List Row) (at : ℕ) → length (cells at rs) ≡ row_cells * length rs
unfolding cells
cells_length [] at = refl
cells_length (r ∷ rs) at =
    omega (arith, length-append (cells_of at r) (cells (at + length (row_code r)) rs), row_length at r, cells_length rs (at + length (row_code r)))

pub pieces_snoc : (rs : List Row) (row : Row) → pieces_of (rs ++ (row ∷ [])) ≡ pieces_of rs + row_pieces row
unfolding pieces_of
pieces_snoc [] row = omega arith
pieces_snoc (r ∷ rs) row = omega (arith, pieces_snoc rs row)

-- the tables with a row more
module _ (rs : List Row) (row : Row) {q : Progress} {code₀ code₁ table₀ table₁ : List ℕ} (t : Tables rs q code₀ code₁ table₀ table₁) where
  cells_more : cells 0 (rs ++ (row ∷ [])) ≡ cells 0 rs ++ cells_of (4 * q.words) row
  cells_more = cells_snoc rs row 0 ∙ ap (λ (k : ℕ). cells 0 rs ++ cells_of k row) (zero-add (length (code rs)) ∙ sym t.words_are)

  pub tables_more : {q' : Progress} {code₂ table₂ : List ℕ} → q'.rows ≡ q.rows + 1 → q'.pieces ≡ q.pieces + row_pieces row
      → code₂ ≡ sets code₁ (4 * q.words) (row_code row) → 4 * q'.words ≡ 4 * q.words + length (row_code row)
      → table₂ ≡ sets table₁ (row_cells * q.rows) (cells_of (4 * q.words) row) → Tables (rs ++ (row ∷ [])) q' code₀ code₂ table₀ table₂
  tables_more {q'} {code₂} {table₂} one counted e f g =
      record {
        rows_are = omega (arith, length-append rs (row ∷ []), t.rows_are, one);
        pieces_are = omega (arith, pieces_snoc rs row, t.pieces_are, counted);
        words_are = omega (arith, ap length (code_snoc rs row), length-append (code rs) (row_code row), t.words_are, f);
        code_is =
            e
            ∙ ap (λ (l : List ℕ). sets l (4 * q.words) (row_code row)) t.code_is
            ∙ sets_behind code₀ 0 (4 * q.words) (code rs) (row_code row) (t.words_are ∙ sym (zero-add (length (code rs))))
            ∙ ap (sets code₀ 0) (sym (code_snoc rs row));
        table_is =
            g
            ∙ ap (λ (l : List ℕ). sets l (row_cells * q.rows) (cells_of (4 * q.words) row)) t.table_is
            ∙ sets_behind table₀ 0 (row_cells * q.rows) (cells 0 rs) (cells_of (4 * q.words) row)
            (ap (λ (k : ℕ). row_cells * k) t.rows_are ∙ sym (cells_length rs 0) ∙ sym (zero-add (length (cells 0 rs))))
            ∙ ap (sets table₀ 0) (sym cells_more);
      }
