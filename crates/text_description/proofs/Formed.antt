-- What is accepted is formed: of each kind of line in turn, by induction on the lines.
-- Assumes nothing.
use mathlib.Core.Path.{◌≡◌, refl, sym, ap, subst, ◌∙◌}
use mathlib.Core.Bool.{Bool, true, false, ◌&&◌}
use mathlib.Core.List.{List, [], ◌∷◌, ◌++◌}
use Prim.Native.Nat.{ℕ, suc, ◌+◌, ◌≤◌}
use native.Mathlib.Omega.{arith}
use lib.Dec.{eqb, leb, ltb}
use lib.ListN.{length, length-append}
use borrow.Author.Tests.{eqb-true, ltb-true, leb-true}
use Rattle.std.specs.Prelude.{Option, Some, None}
use Rattle.word.specs.Word.{widest}
use Rattle.word.specs.Choice.{pick}
use Rattle.characters.specs.Characters.{same}
use Rattle.characters.specs.Ascii.{line_feed}
use Rattle.text_fields.specs.Fields.{Line, before, after, lines, field, has_fields}
use Rattle.text_fields.specs.Rests.{first_line}
use Rattle.text_fields.proofs.Lines.{first_line_lem}
use Rattle.characters.specs.Named.{Named}
use Rattle.text_names.specs.Names.{is_name}
use Rattle.text_constants.specs.Constants.{decimal_at}
use Rattle.text_constants.specs.declared.Number.{Number}
use Rattle.std.specs.Prelude.{Option, Some, None}
use Rattle.text_rows.proofs.Tables.{pieces_snoc}
use Rattle.laws.proofs.Tests.{by_case}
use Rattle.characters.proofs.Strings.{equal}
use Rattle.laws.proofs.Joined.{and_left, and_right}
use Rattle.text_code.specs.Readings.{Reading, read, outside, DestinationReading, leads, astray}
use Rattle.text_expression.specs.Expression.{expression, destination}
use Rattle.text_code.specs.Formed.{Registers, Accepted, Reads, FormedDestination, LeadsTo}
use Rattle.text_expression.proofs.Formed.{expression_formed, destination_formed}
use Rattle.text_declaration.specs.declared.faults.Fault.{Fault}
use Rattle.text_declaration.specs.declared.faults.Fault.TheVariants as fault
use Rattle.text_declaration.specs.declared.faults.Fault.TheVariants.{Size, Header, Register, Label, Limit, Run}
use Rattle.text_declaration.specs.Rows.{Row, does, goes, row_pieces, pieces_of, Description}
use Rattle.text_limits.specs.Limits.{most_bytes, most_registers, most_rows, most_labels, all_pieces}
use Rattle.text_declaration.specs.Lines.{reg_word, do_word, go_word, at_word, Progress, Step, refused, next, kept, width_of, is_width, is_new_name, add_register, unbegun, reg_line, is_new_label, add_label, at_line}
use Rattle.text_targets.specs.Targets.{is_at, is_row, further, passes, MissingTarget, missing_at, none_missing, first_missing}
use Rattle.text_rows.specs.Lines.{add_row, add_do, do_line, rows_passed, add_go, go_line}
use Rattle.text_description.specs.Line.{is_fit, by_word, read_line}
use Rattle.text_description.specs.Description.{Acceptance, accepted, turned_down, kept_at, header, nothing, has_run, finished, read_lines, read_below, read_all, read_text}
use Rattle.text_description.specs.Formed.{FormedRow, FormedRows, Lands, Lower, Formed, labels_in, Keeps}

-- what is one word is no other
other : (s w : List ℕ) → same s w ≡ true → (v : List ℕ) → same w v ≡ false → same s v ≡ false
other s w e v f = ap (λ (l : List ℕ). same l v) (equal s w e) ∙ f

-- the rows among the lines
rows_in : List Line → ℕ
rows_in [] = 0
rows_in (l ∷ ls) = elim (is_row l.bytes) [ true ↦ suc (rows_in ls) | false ↦ rows_in ls ]

module _ (l : Line) (ls : List Line) where
  row_counted : is_row l.bytes ≡ true → rows_in (l ∷ ls) ≡ suc (rows_in ls)
  unfolding rows_in
  row_counted e = rw (e, rows_in)

  row_uncounted : is_row l.bytes ≡ false → rows_in (l ∷ ls) ≡ rows_in ls
  unfolding rows_in
  row_uncounted e = rw (e, rows_in)

  label_counted : same (field 0 l.bytes) at_word ≡ true → labels_in (l ∷ ls) ≡ suc (labels_in ls)
  unfolding labels_in
  label_counted e = rw (e, labels_in)

  label_uncounted : same (field 0 l.bytes) at_word ≡ false → labels_in (l ∷ ls) ≡ labels_in ls
  unfolding labels_in
  label_uncounted e = rw (e, labels_in)

-- a `go` passes over rows that are there
further_le : (t : Option ℕ) (n : ℕ) → rows_passed t ≤ n → rows_passed (further 1 t) ≤ suc n
further_le (Some k) n h = omega arith
further_le None n h = omega arith

passes_le : (label : List ℕ) (ls : List Line) → rows_passed (passes label ls) ≤ rows_in ls
unfolding passes rows_in
passes_le label [] = omega arith
passes_le label (l ∷ ls) =
    by_case (λ (t : Option ℕ). rows_passed t ≤ rows_in (l ∷ ls)) (is_at label l.bytes) (λ e. omega arith)
    (λ e.
    by_case (λ (t : Option ℕ). rows_passed t ≤ rows_in (l ∷ ls)) (is_row l.bytes)
    (λ f. subst (λ (n : ℕ). rows_passed (further 1 (passes label ls)) ≤ n) (sym (row_counted l ls f)) (further_le (passes label ls) (rows_in ls) (passes_le label ls)))
    (λ f. subst (λ (n : ℕ). rows_passed (passes label ls) ≤ n) (sym (row_uncounted l ls f)) (passes_le label ls)))

-- one more behind the others
registers_snoc : (rs : List Named) (e : Named) → Registers rs → 1 ≤ e.number → e.number ≤ widest → Registers (rs ++ (e ∷ []))
registers_snoc [] e h a b = record { some = a; narrow = b; others = tt }
registers_snoc (r ∷ rs) e h a b = record { some = h.some; narrow = h.narrow; others = registers_snoc rs e h.others a b }

rows_snoc : (rs : List Named) (rows : List Row) (row : Row) → FormedRows rs rows → FormedRow rs row → FormedRows rs (rows ++ (row ∷ []))
rows_snoc rs [] row h k = record { first = k; others = tt }
rows_snoc rs (r ∷ rows) row h k = record { first = h.first; others = rows_snoc rs rows row h.others k }

lands_le : (r : Row) (m n : ℕ) → m ≤ n → Lands r m → Lands r n
lands_le (does c d e) m n h k = tt
lands_le (goes c j) m n h k = omega arith

lower_snoc : (rows : List Row) (row : Row) (n : ℕ) → Lower (suc n) rows → Lands row n → Lower n (rows ++ (row ∷ []))
lower_snoc [] row n h k = record { first = lands_le row n (0 + n) (omega arith) k; others = tt }
lower_snoc (r ∷ rows) row n h k =
    record {
      first = lands_le r (length rows + suc n) (length (rows ++ (row ∷ [])) + n) (omega (arith, length-append rows (row ∷ []))) h.first;
      others = lower_snoc rows row n h.others k;
    }

-- where there are no labels and no rows yet
no_row_yet : (rows : List Row) (n : ℕ) → eqb (n + length rows) 0 ≡ true → rows ≡ []
no_row_yet [] n e = refl
no_row_yet (r ∷ rows) n e = absurd (omega (arith, eqb-true (n + length (r ∷ rows)) 0 e))

-- a width that is one
width_fits : (w : List ℕ) (n : Option Number) → is_width w n ≡ true → (1 ≤ width_of n) × (width_of n ≤ widest)
width_fits w (Some d) e =
    let k = and_left (leb 1 d.value && leb d.value widest) (eqb d.place (length w)) e in
    (leb-true 1 d.value (and_left (leb 1 d.value) (leb d.value widest) k), leb-true d.value widest (and_right (leb 1 d.value) (leb d.value widest) k))
width_fits w None e = absurd (mathlib.Core.Bool.false≢true e)

-- what holds of what was read so far, above the lines that are left; `all` counts the labels of the text
record Kept (all : ℕ) (p : Progress) (ls : List Line) : Type 0 where
  few_registers : length p.registers ≤ most_registers
  registers_fit : Registers p.registers
  few_labels : length p.labels ≤ most_labels
  few_rows : length p.rows ≤ most_rows
  few_pieces : pieces_of p.rows ≤ all_pieces
  rows_formed : FormedRows p.registers p.rows
  lower : Lower (rows_in ls) p.rows
  labels_left : length p.labels + labels_in ls ≡ all

-- what holds after a line, unless it is refused
abbrev After : ℕ → List Line → Step → Type 0
After all ls (refused f) = Unit {0}
After all ls (next q) = Kept all q ls

-- by a rule that is kept, or by a choice
if_kept : (all : ℕ) (ls : List Line) (b : Bool) (f : Fault) (x : Step) → (b ≡ true → After all ls x) → After all ls (kept b f x)
if_kept all ls true f x p = p refl
if_kept all ls false f x p = tt

either : (all : ℕ) (ls : List Line) (b : Bool) (x y : Step) → (b ≡ true → After all ls x) → (b ≡ false → After all ls y) → After all ls (pick b x y)
either all ls true x y p q = p refl
either all ls false x y p q = q refl

module _ (all : ℕ) (p : Progress) (l : Line) (ls : List Line) (h : Kept all p (l ∷ ls)) where
  abbrev s : List ℕ
  s = l.bytes

  -- a register more: no row was before it
  register_kept : p.rows ≡ [] → is_row s ≡ false → same (field 0 s) at_word ≡ false → (n w : List ℕ) → After all ls (add_register p n w)
  unfolding add_register
  register_kept b r a n w =
      if_kept all ls (is_new_name p.registers n && is_width w (decimal_at w 0)) Register _
      (λ t.
      if_kept all ls (ltb (length p.registers) most_registers) Limit _
      (λ u.
      let width = width_of (decimal_at w 0) in
      let added : Named = record { name = n; number = width } in
      let k = width_fits w (decimal_at w 0) (and_right (is_new_name p.registers n) (is_width w (decimal_at w 0)) t) in
      record {
        few_registers = omega (arith, length-append p.registers (added ∷ []), ltb-true (length p.registers) most_registers u);
        registers_fit =
            registers_snoc p.registers added h.registers_fit k.0 k.1;
        few_labels = h.few_labels;
        few_rows = h.few_rows;
        few_pieces = h.few_pieces;
        rows_formed = subst (λ (rows : List Row). FormedRows (p.registers ++ (added ∷ [])) rows) (sym b) tt;
        lower = subst (λ (k : ℕ). Lower k p.rows) (row_uncounted l ls r) h.lower;
        labels_left = subst (λ (k : ℕ). length p.labels + k ≡ all) (label_uncounted l ls a) h.labels_left;
      }))

  reg_kept : is_row s ≡ false → same (field 0 s) at_word ≡ false → After all ls (reg_line p s)
  unfolding reg_line
  reg_kept r a =
      if_kept all ls (has_fields 3 s && unbegun p) fault.Line _
      (λ t. register_kept (no_row_yet p.rows (length p.labels) (and_right (has_fields 3 s) (unbegun p) t)) r a (field 1 s) (field 2 s))

  -- a label more
  label_kept : is_row s ≡ false → same (field 0 s) at_word ≡ true → (n : List ℕ) → After all ls (add_label p n)
  unfolding add_label
  label_kept r a n =
      if_kept all ls (is_new_label p.labels p.registers n) Label _
      (λ t.
      if_kept all ls (ltb (length p.labels) most_labels) Limit _
      (λ u.
      record {
        few_registers = h.few_registers;
        registers_fit = h.registers_fit;
        few_labels = omega (arith, length-append p.labels (record { name = n; number = 0 } ∷ []), ltb-true (length p.labels) most_labels u);
        few_rows = h.few_rows;
        few_pieces = h.few_pieces;
        rows_formed = h.rows_formed;
        lower = subst (λ (k : ℕ). Lower k p.rows) (row_uncounted l ls r) h.lower;
        labels_left = omega (arith, length-append p.labels (record { name = n; number = 0 } ∷ []), label_counted l ls a, h.labels_left);
      }))

  at_kept : is_row s ≡ false → same (field 0 s) at_word ≡ true → After all ls (at_line p s)
  unfolding at_line
  at_kept r a = if_kept all ls (has_fields 2 s) fault.Line _ (λ t. label_kept r a (field 1 s))

  abbrev rs : List Named
  rs = p.registers

  -- lines of rows
  module _ (r : is_row s ≡ true) (a : same (field 0 s) at_word ≡ false) where
    -- a row more
    row_kept : (row : Row) → FormedRow p.registers row → Lands row (rows_in ls) → After all ls (add_row p row)
    unfolding add_row
    row_kept row f lands =
        if_kept all ls (ltb (length p.rows) most_rows && leb (pieces_of p.rows + row_pieces row) all_pieces) Limit _
        (λ t.
        let j = and_left (ltb (length p.rows) most_rows) (leb (pieces_of p.rows + row_pieces row) all_pieces) t in
        let k = and_right (ltb (length p.rows) most_rows) (leb (pieces_of p.rows + row_pieces row) all_pieces) t in
        record {
          few_registers = h.few_registers;
          registers_fit = h.registers_fit;
          few_labels = h.few_labels;
          few_rows = omega (arith, length-append p.rows (row ∷ []), ltb-true (length p.rows) most_rows j);
          few_pieces = omega (arith, pieces_snoc p.rows row, leb-true (pieces_of p.rows + row_pieces row) all_pieces k);
          rows_formed = rows_snoc p.registers p.rows row h.rows_formed f;
          lower = lower_snoc p.rows row (rows_in ls) (subst (λ (n : ℕ). Lower n p.rows) (row_counted l ls r) h.lower) lands;
          labels_left = subst (λ (n : ℕ). length p.labels + n ≡ all) (label_uncounted l ls a) h.labels_left;
        })

    -- a `do` row
    do_row_kept : (c : Reading) (d : DestinationReading) (e : Reading) → Reads (Accepted rs) c → LeadsTo (FormedDestination rs) d → Reads (Accepted rs) e
        → After all ls (add_do p c d e)
    unfolding add_do
    do_row_kept (read c x) (leads d) (read e y) i j k = row_kept (does c d e) (record { condition = i; destination = j; value = k }) tt
    do_row_kept (read c x) (leads d) outside i j k = tt
    do_row_kept (read c x) astray e i j k = tt
    do_row_kept outside d e i j k = tt

    do_kept : After all ls (do_line p s)
    unfolding do_line
    do_kept =
        if_kept all ls (has_fields 4 s) fault.Line _
        (λ t.
        do_row_kept (expression rs (field 1 s)) (destination rs (field 2 s)) (expression rs (field 3 s))
        (expression_formed rs (field 1 s)) (destination_formed rs (field 2 s)) (expression_formed rs (field 3 s)))

    -- a `go` row
    go_row_kept : (label : List ℕ) (c : Reading) → Reads (Accepted rs) c → After all ls (add_go p label (passes label ls) c)
    unfolding add_go
    go_row_kept label (read c x) f =
        if_kept all ls (is_name label) Label _ (λ t. row_kept (goes c (rows_passed (passes label ls))) f (passes_le label ls))
    go_row_kept label outside f = tt

    go_kept : After all ls (go_line p ls s)
    unfolding go_line
    go_kept =
        if_kept all ls (has_fields 3 s) fault.Line _ (λ t. go_row_kept (field 2 s) (expression rs (field 1 s)) (expression_formed rs (field 1 s)))

  -- a line
  abbrev word : List ℕ
  word = field 0 s

  neither : same word do_word ≡ false → same word go_word ≡ false → is_row s ≡ false
  neither e f = rw (e, f)

  line_kept : After all ls (read_line p ls l)
  unfolding read_line by_word same
  line_kept =
      if_kept all ls (is_fit l) fault.Line _
      (λ t.
      either all ls (same word reg_word) _ _
      (λ e. reg_kept (neither (other word reg_word e do_word refl) (other word reg_word e go_word refl)) (other word reg_word e at_word refl))
      (λ u.
      either all ls (same word do_word) _ _
      (λ e. do_kept (rw e) (other word do_word e at_word refl))
      (λ v.
      either all ls (same word go_word) _ _
      (λ e. go_kept (rw (other word go_word e do_word refl, e)) (other word go_word e at_word refl))
      (λ w. if_kept all ls (same word at_word) fault.Line _ (λ e. at_kept (neither v w) e)))))

-- the whole text
abbrev Ends : ℕ → Acceptance → Type 0
Ends all (accepted d) = Formed d × (all ≤ most_labels)
Ends all (turned_down f n) = Unit {0}

if_taken : (all n : ℕ) (b : Bool) (f : Fault) (x : Acceptance) → (b ≡ true → Ends all x) → Ends all (kept_at n b f x)
if_taken all n true f x p = p refl
if_taken all n false f x p = tt

finished_kept : (all : ℕ) (below : List Line) (p : Progress) (n : ℕ) → Kept all p [] → Ends all (finished below p n)
unfolding finished rows_in labels_in
finished_kept all below p n h = by_target (first_missing 2 below)
  where
    by_target : (x : MissingTarget)
        → Ends all (elim x [
          | missing_at k ↦ turned_down Label k
          | none_missing ↦ kept_at n (has_run p.registers) Run (accepted (record { registers = p.registers; rows = p.rows }))
        ])
    by_target (missing_at k) = tt
    by_target none_missing =
        if_taken all n (has_run p.registers) Run _
        (λ u. (
          record {
            few_registers = h.few_registers;
            registers_fit = h.registers_fit;
            few_rows = h.few_rows;
            few_pieces = h.few_pieces;
            rows_formed = h.rows_formed;
            lower = h.lower;
            has_run_lem = u;
          },
          omega (arith, h.labels_left, h.few_labels),
        ))

lines_kept : (all : ℕ) (below ls : List Line) (p : Progress) (n : ℕ) → Kept all p ls → Ends all (read_lines below p n ls)
unfolding read_lines
lines_kept all below [] p n h = finished_kept all below p n h
lines_kept all below (l ∷ ls) p n h = go (λ q k. lines_kept all below ls q (n + 1) k) (read_line p ls l) (line_kept all p l ls h)
  where
    go : ((q : Progress) → Kept all q ls → Ends all (read_lines below q (n + 1) ls)) → (x : Step) → After all ls x
        → Ends all (elim x [ refused k ↦ turned_down k n | next q ↦ read_lines below q (n + 1) ls ])
    go i (refused f) k = tt
    go i (next q) k = i q k

start_kept : (ls : List Line) → Kept (labels_in ls) nothing ls
unfolding pieces_of
start_kept ls =
    record {
      few_registers = omega arith;
      registers_fit = tt;
      few_labels = omega arith;
      few_rows = omega arith;
      few_pieces = omega arith;
      rows_formed = tt;
      lower = tt;
      labels_left = omega arith;
    }

all_kept : (s : List ℕ) → Ends (labels_in (lines (after line_feed s))) (read_all (lines s))
unfolding read_all read_below lines
all_kept [] = tt
all_kept (y ∷ s) =
    let ls = lines (after line_feed (y ∷ s)) in
    subst (λ (k : List Line). Ends (labels_in ls) (read_all k)) (sym (first_line_lem (y ∷ s) (omega arith)))
    (if_taken (labels_in ls) 1 (same (before line_feed (y ∷ s)) header) Header _
    (λ u. if_taken (labels_in ls) 1 (first_line (y ∷ s)).ended fault.Line _ (λ v. lines_kept (labels_in ls) ls ls nothing 2 (start_kept ls))))

text_kept : (s : List ℕ) → Ends (labels_in (lines (after line_feed s))) (read_text s)
unfolding read_text
text_kept s = if_taken (labels_in (lines (after line_feed s))) 0 (leb (length s) most_bytes) Size _ (λ t. all_kept s)

-- a description that is accepted keeps every limit
pub accepted_keeps : (s : List ℕ) (d : Description) → read_text s ≡ accepted d → Keeps d (lines (after line_feed s))
accepted_keeps s d e =
    let k = subst (Ends (labels_in (lines (after line_feed s)))) e (text_kept s) in
    record { formed = k.0; few_labels = k.1 }
