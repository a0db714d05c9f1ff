-- The laws of rows: what a `do` or a `go` line comes to.
-- Assumes nothing.
use mathlib.Core.Path.{◌≡◌, refl, sym, ap, subst, ◌∙◌}
use mathlib.Core.Bool.{Bool, true, false, ◌&&◌}
use mathlib.Core.List.{List, [], ◌∷◌, ◌++◌}
use Prim.Native.Nat.{ℕ, ◌+◌, ◌*◌}
use native.Mathlib.Omega.{arith}
use lib.Dec.{ltb, leb}
use lib.ListN.{length}
use lib.Seq.{sets}
use borrow.Author.Tests.{ltb-true, leb-true}
use Rattle.std.specs.Prelude.{Option, Result, Ok, Err, IfOk, Some}
use Rattle.word.specs.Choice.{pick}
use Rattle.text_fields.specs.Fields as text
use Rattle.text_fields.specs.Fields.{field, has_fields, lines}
use Rattle.text_names.specs.Dictionaries.{entries}
use Rattle.text_names.specs.Names.{is_name}
use Rattle.laws.proofs.Joined.{and_left, and_right}
use Rattle.laws.proofs.Tests.{by_test, not_so}
use Rattle.text_code.specs.declared.Cursor.{Cursor}
use Rattle.text_code.specs.Tree.{Expr}
use Rattle.text_code.specs.Readings.{Reading, read, outside, DestinationReading, leads, astray}
use Rattle.text_expression.specs.Expression.{expression, destination}
use Rattle.text_code.specs.Met.{Held, Meets, part}
use Rattle.text_declaration.specs.declared.faults.Fault.{Fault}
use Rattle.text_declaration.specs.declared.faults.Fault.TheVariants.{Line, Expression, Label, Limit}
use Rattle.text_declaration.specs.declared.lines.Progress as code
use Rattle.text_declaration.specs.Rows.{Row, goes, row_pieces, pieces_of}
use Rattle.text_limits.specs.Limits.{most_rows, all_pieces}
use Rattle.text_declaration.specs.Lines.{Progress, with_row, Step, refused, next}
use Rattle.text_targets.specs.Targets.{passes, is_missing}
use Rattle.text_declaration.specs.Stored.{progress_of, Within, Plain}
use Rattle.text_rows.specs.declared.actions.RowRead.{RowRead}
use Rattle.text_rows.specs.Lines.{add_row, add_do, do_line, rows_passed, add_go, go_line}
use Rattle.text_code.specs.RowTable.{row_cells}
use Rattle.text_rows.specs.Cells.{go_cells}
use Rattle.text_rows.specs.Stored.{Tables, Comes, Takes, first_gone, has_room, one_more, Put, RowReading, formed, unformed, do_row, take_row, Forming, HasRow, Jumps}
use Rattle.text_rows.proofs.Tables.{tables_more, row_code_pieces}

-- a refused line leaves nothing to say of the tables
pub takes_refused : (text : List ℕ) (g : Progress → Step) (lost : Option ℕ) (q : code.Progress) (f : Fault) {code₁ code₂ table₁ table₂ : List ℕ}
    → ((rs : List Row) → g (progress_of text q rs) ≡ refused f) → Takes text g lost q (Err f) code₁ code₂ table₁ table₂
takes_refused text g lost q f is =
    record { comes = λ rs code₀ table₀ t. record { rows = rs; is = is rs; holds = tt }; missing_is = tt; within = tt }

-- a line whose definition says the same
pub takes_as : (text : List ℕ) (f g : Progress → Step) (lost lost' : Option ℕ) (q : code.Progress) (r : Result code.Progress Fault) {code₁ code₂ table₁ table₂ : List ℕ}
    → ((rs : List Row) → f (progress_of text q rs) ≡ g (progress_of text q rs)) → lost' ≡ lost → Takes text g lost q r code₁ code₂ table₁ table₂
    → Takes text f lost' q r code₁ code₂ table₁ table₂
takes_as text f g lost lost' q r {code₁} {code₂} {table₁} {table₂} e i p =
    record {
      comes = λ rs code₀ table₀ t.
          let k = p.comes rs code₀ table₀ t in
          record { rows = k.rows; is = e rs ∙ k.is; holds = k.holds };
      missing_is = subst (λ (m : Option ℕ). IfOk r (λ (z : code.Progress). z.missing ≡ m)) (sym i) p.missing_is;
      within = p.within;
    }

-- a line that adds no row leaves the tables
pub takes_plain : (text : List ℕ) (g : Progress → Step) (q : code.Progress) (r : Result code.Progress Fault) {code₁ table₁ : List ℕ} → Plain text g q r
    → Takes text g q.missing q r code₁ code₁ table₁ table₁
takes_plain text g q (Ok p) {code₁} {table₁} k =
    record {
      comes = λ rs code₀ table₀ t.
          record {
            rows = rs;
            is = k.is rs t.rows_are;
            holds = record {
              rows_are = k.stays.same_rows ∙ t.rows_are;
              pieces_are = k.stays.same_pieces ∙ t.pieces_are;
              words_are = ap (λ (n : ℕ). 4 * n) k.stays.same_words ∙ t.words_are;
              code_is = t.code_is;
              table_is = t.table_is;
            };
          };
      missing_is = k.stays.same_missing;
      within = k.stays.within;
    }
takes_plain text g q (Err f) k =
    record { comes = λ rs code₀ table₀ t. record { rows = rs; is = k.is rs t.rows_are; holds = tt }; missing_is = tt; within = tt }

-- a row more, where there is room for it
module _ (p : Progress) (row : Row) where
  abbrev fits : Bool
  fits = ltb (length p.rows) most_rows && leb (pieces_of p.rows + row_pieces row) all_pieces

  row_added : fits ≡ true → add_row p row ≡ next (with_row p row)
  unfolding add_row
  row_added t = rw (t, add_row)

  row_full : fits ≡ false → add_row p row ≡ refused Limit
  unfolding add_row
  row_full t = rw (t, add_row)

-- where a line starts counting
abbrev pub before : code.Progress → Cursor
before q = record { place = 0; words = q.words; pieces = q.pieces }

-- a row that was read and put into the table, if there is room
module _ (text : List ℕ) (q : code.Progress) (h : Within q) (row : Row) (cs : List ℕ) (end : Cursor) (lost : Option ℕ) (r : Result code.Progress Fault)
    {code₁ code₂ table₁ table₂ : List ℕ} (forms : Forming row cs end (before q) code₁ code₂) (put : Put q cs end lost r table₁ table₂) where
  abbrev room : Bool
  room = has_room q end

  abbrev more : Result code.Progress Fault
  more = Ok (one_more q end lost)

  abbrev full : Result code.Progress Fault
  full = Err Limit

  row_room : (rs : List Row) {code₀ table₀ : List ℕ} → Tables rs q code₀ code₁ table₀ table₁ → fits (progress_of text q rs) row ≡ room
  row_room rs t =
      ap (λ (n : ℕ). ltb n most_rows && leb (pieces_of rs + row_pieces row) all_pieces) (sym t.rows_are)
      ∙ ap (λ (n : ℕ). ltb q.rows most_rows && leb (n + row_pieces row) all_pieces) (sym t.pieces_are)
      ∙ ap (λ (n : ℕ). ltb q.rows most_rows && leb n all_pieces) (sym forms.pieces_are)

  added : room ≡ true → (rs : List Row) (code₀ table₀ : List ℕ) → Tables rs q code₀ code₁ table₀ table₁
      → Comes text (add_row (progress_of text q rs) row) more code₀ code₂ table₀ table₂
  added u rs code₀ table₀ t =
      record {
        rows = rs ++ (row ∷ []);
        is = row_added (progress_of text q rs) row (row_room rs t ∙ u);
        holds =
            tables_more rs row t refl forms.pieces_are forms.code_is forms.words_are
            (put.table_is
            ∙ ap (λ (b : Bool). pick b (sets table₁ (row_cells * q.rows) cs) table₁) u
            ∙ ap (sets table₁ (row_cells * q.rows)) forms.cells_are);
      }

  within_more : room ≡ true → Within (one_more q end lost)
  within_more u =
      let l = ltb-true q.rows most_rows (and_left (ltb q.rows most_rows) (leb end.pieces all_pieces) u) in
      record {
        few_registers = h.few_registers;
        few_labels = h.few_labels;
        few_rows = omega (arith, l);
        few_words = omega (arith, h.few_words, forms.pieces_are, forms.words_are, row_code_pieces row);
        few_pieces = leb-true end.pieces all_pieces (and_right (ltb q.rows most_rows) (leb end.pieces all_pieces) u);
      }

  takes_row : Takes text (λ (p : Progress). add_row p row) lost q r code₁ code₂ table₁ table₂
  takes_row =
      by_test room
      (λ u.
      subst (λ (x : Result code.Progress Fault). Takes text (λ (p : Progress). add_row p row) lost q x code₁ code₂ table₁ table₂) (sym (put.is ∙ ap (λ (b : Bool). pick b more full) u))
      (record { comes = λ rs code₀ table₀ t. added u rs code₀ table₀ t; missing_is = refl; within = within_more u }))
      (λ u.
      subst (λ (x : Result code.Progress Fault). Takes text (λ (p : Progress). add_row p row) lost q x code₁ code₂ table₁ table₂) (sym (put.is ∙ ap (λ (b : Bool). pick b more full) u))
      (record {
        comes = λ rs code₀ table₀ t. record { rows = rs; is = row_full (progress_of text q rs) row (row_room rs t ∙ u); holds = tt };
        missing_is = tt;
        within = tt;
      }))

-- an expression that was read
pub record ReadAs (x : Reading) (end : Cursor) (w : ℕ) (from : Cursor) (now after : List ℕ) : Type 0 where
  pub tree : Expr
  pub place : ℕ
  pub is : x ≡ read tree place
  pub held : Held tree place (part end w) from now after

pub read_as : (x : Reading) (end : Cursor) (w : ℕ) (from : Cursor) (now after : List ℕ) → Meets x (Some (part end w)) from now after → ReadAs x end w from now after
read_as (read t p) end w from now after m = record { tree = t; place = p; is = refl; held = m }
read_as outside end w from now after m = absurd m

-- where a `go` line's label stands in what is below it
abbrev target_of : List ℕ → List ℕ → Option ℕ
target_of line below = passes (field 2 line) (lines below)

-- `go` lines
module _ (p : Progress) (s below : List ℕ) where
  abbrev target : Option ℕ
  target = target_of s below

  abbrev condition : Reading
  condition = expression p.registers (field 1 s)

  pub go_malformed : has_fields 3 s ≡ false → go_line p (lines below) s ≡ refused Line
  unfolding go_line
  go_malformed t = rw (t, go_line)

  go_taken : (c : Expr) (x : ℕ) → has_fields 3 s ≡ true → condition ≡ read c x → is_name (field 2 s) ≡ true
      → go_line p (lines below) s ≡ add_row p (goes c (rows_passed target))
  unfolding go_line add_go
  go_taken c x t e u = rw (t, e, u, add_go, go_line)

  go_unnamed : (c : Expr) (x : ℕ) → has_fields 3 s ≡ true → condition ≡ read c x → is_name (field 2 s) ≡ false → go_line p (lines below) s ≡ refused Label
  unfolding go_line add_go
  go_unnamed c x t e u = rw (t, e, u, add_go, go_line)

  pub go_unread : has_fields 3 s ≡ true → condition ≡ outside → go_line p (lines below) s ≡ refused Expression
  unfolding go_line add_go
  go_unread t e = rw (t, e, add_go, go_line)

-- the cells of a `go` are those of its row
go_forms : (q : code.Progress) (c : Expr) (x : ℕ) (end : Cursor) (w passed : ℕ) (now after : List ℕ) → Held c x (part end w) (before q) now after
    → Forming (goes c passed) (go_cells q.words end.words passed) end (before q) now after
go_forms q c x end w passed now after h =
    record {
      cells_are = ap (λ (k : ℕ). 3 ∷ 4 * q.words ∷ k ∷ k ∷ k ∷ 0 ∷ 0 ∷ 0 ∷ passed ∷ []) h.words_are;
      pieces_are = h.pieces_are;
      words_are = h.words_are;
      code_is = h.code_is;
    }

-- a `go` line whose condition was read
module _ (text : List ℕ) (q : code.Progress) (h : Within q) (n : ℕ) (line below f : List ℕ) (fields : has_fields 3 line ≡ true) (first : f ≡ field 1 line)
    (end : Cursor) (w : ℕ) (code₁ code₂ : List ℕ) (m : Meets (expression (entries text q.registers) f) (Some (part end w)) (before q) code₁ code₂) where
  abbrev found : ReadAs (expression (entries text q.registers) f) end w (before q) code₁ code₂
  found = read_as (expression (entries text q.registers) f) end w (before q) code₁ code₂ m

  condition_is : expression (entries text q.registers) (field 1 line) ≡ read found.tree found.place
  condition_is = ap (expression (entries text q.registers)) (sym first) ∙ found.is

  abbrev passed : ℕ
  passed = rows_passed (target_of line below)

  abbrev lost : Option ℕ
  lost = first_gone (is_missing (target_of line below)) n q.missing

  pub go_jumps : (r : Result code.Progress Fault) {table₁ table₂ : List ℕ} → Jumps q n (field 2 line) (lines below) end r table₁ table₂
      → Takes text (λ (p : Progress). go_line p (lines below) line) lost q r code₁ code₂ table₁ table₂
  go_jumps r {table₁} {table₂} j =
      by_test (is_name (field 2 line))
      (λ u.
      takes_as text (λ (p : Progress). go_line p (lines below) line) (λ (p : Progress). add_row p (goes found.tree passed)) lost lost q r
      (λ rs. go_taken (progress_of text q rs) line below found.tree found.place fields condition_is u) refl
      (takes_row text q h (goes found.tree passed) (go_cells q.words end.words passed) end lost r
      (go_forms q found.tree found.place end w passed code₁ code₂ found.held) (j.named u)))
      (λ u.
      subst (λ (x : Result code.Progress Fault). Takes text (λ (p : Progress). go_line p (lines below) line) lost q x code₁ code₂ table₁ table₂) (sym (j.nameless u))
      (takes_refused text (λ (p : Progress). go_line p (lines below) line) lost q Label
      (λ rs. go_unnamed (progress_of text q rs) line below found.tree found.place fields condition_is u)))

-- a `go` by the label that the code holds
module _ (q : code.Progress) (n : ℕ) (label held : List ℕ) (below : List text.Line) (second : held ≡ label) (end : Cursor) (r : Result code.Progress Fault)
    {table₁ table₂ : List ℕ} where
  pub jumps : is_name held ≡ true → (t : Option ℕ) → t ≡ passes held below → (passed : ℕ) (lost : Option ℕ) → passed ≡ rows_passed t → lost ≡ first_gone (is_missing t) n q.missing
      → (cs : List ℕ) → cs ≡ go_cells q.words end.words passed → Put q cs end lost r table₁ table₂ → Jumps q n label below end r table₁ table₂
  jumps named t there passed lost i j cs e put =
      let there' = there ∙ ap (λ (l : List ℕ). passes l below) second in
      record {
        named = λ u.
            subst (λ (m : Option ℕ). Put q (go_cells q.words end.words (rows_passed (passes label below))) end m r table₁ table₂)
            (j ∙ ap (λ (z : Option ℕ). first_gone (is_missing z) n q.missing) there')
            (subst (λ (c : List ℕ). Put q c end lost r table₁ table₂) (e ∙ ap (go_cells q.words end.words) (i ∙ ap rows_passed there')) put);
        nameless = λ u. not_so (is_name label) (ap is_name (sym second) ∙ named) u;
      }

  pub jumps_nowhere : is_name held ≡ false → r ≡ Err Label → Jumps q n label below end r table₁ table₂
  jumps_nowhere named e =
      record { named = λ u. not_so (is_name label) u (ap is_name (sym second) ∙ named); nameless = λ u. e }

-- `do` lines
do_row_lem : (p : Progress) (c : Reading) (d : DestinationReading) (e : Reading) → add_do p c d e ≡ take_row p (do_row c d e)
unfolding add_do do_row
do_row_lem p (read c x) (leads d) (read e y) = refl
do_row_lem p (read c x) (leads d) outside = refl
do_row_lem p (read c x) astray e = refl
do_row_lem p outside d e = refl

module _ (p : Progress) (s : List ℕ) where
  abbrev reading : RowReading
  reading = do_row (expression p.registers (field 1 s)) (destination p.registers (field 2 s)) (expression p.registers (field 3 s))

  pub do_malformed : has_fields 4 s ≡ false → do_line p s ≡ refused Line
  unfolding do_line
  do_malformed t = rw (t, do_line)

  do_read : has_fields 4 s ≡ true → do_line p s ≡ take_row p reading
  unfolding do_line
  do_read t =
      rw (t, do_line)
      (do_row_lem p (expression p.registers (field 1 s)) (destination p.registers (field 2 s)) (expression p.registers (field 3 s)))

  do_taken : (row : Row) → has_fields 4 s ≡ true → reading ≡ formed row → do_line p s ≡ add_row p row
  do_taken row t e = do_read t ∙ ap (take_row p) e

  do_unread : has_fields 4 s ≡ true → reading ≡ unformed → do_line p s ≡ refused Expression
  do_unread t e = do_read t ∙ ap (take_row p) e

-- a `do` line whose row was read, and one without
module _ (text : List ℕ) (q : code.Progress) (line : List ℕ) (fields : has_fields 4 line ≡ true) where
  abbrev assigned : RowReading
  assigned = reading (progress_of text q []) line

  pub do_assigned : Within q → (x : RowRead) (r : Result code.Progress Fault) {code₁ code₂ table₁ table₂ : List ℕ}
      → HasRow assigned x (before q) code₁ code₂ → Put q x.cells x.end q.missing r table₁ table₂
      → Takes text (λ (p : Progress). do_line p line) q.missing q r code₁ code₂ table₁ table₂
  do_assigned h x r k put =
      takes_as text (λ (p : Progress). do_line p line) (λ (p : Progress). add_row p k.row) q.missing q.missing q r
      (λ rs. do_taken (progress_of text q rs) line k.row fields k.is) refl
      (takes_row text q h k.row x.cells x.end q.missing r k.forms put)

  pub do_unassigned : {code₁ code₂ table₁ table₂ : List ℕ} → assigned ≡ unformed
      → Takes text (λ (p : Progress). do_line p line) q.missing q (Err Expression) code₁ code₂ table₁ table₂
  do_unassigned e =
      takes_refused text (λ (p : Progress). do_line p line) q.missing q Expression (λ rs. do_unread (progress_of text q rs) line fields e)
