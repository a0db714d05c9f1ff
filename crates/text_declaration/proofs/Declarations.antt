-- The laws of lines that add no row: a register more, a label more.
-- Assumes nothing.
use mathlib.Core.Path.{◌≡◌, refl, sym, ap, subst, ◌∙◌}
use mathlib.Core.Bool.{Bool, true, false, ◌&&◌}
use mathlib.Core.List.{List, [], ◌∷◌, ◌++◌}
use Prim.Native.Nat.{ℕ, ◌+◌, ◌≤◌, ◌<◌}
use native.Mathlib.Omega.{arith}
use lib.Dec.{eqb, ltb}
use lib.ListN.{length, take, drop}
use borrow.Author.Tests.{lt-ltb, le-ltb}
use Rattle.std.specs.Prelude.{Result, Ok, Err}
use Rattle.text_fields.specs.Fields.{field, has_fields}
use Rattle.characters.specs.Named.{Named}
use Rattle.text_names.specs.Dictionaries.{entries, Added}
use Rattle.text_constants.specs.Constants.{decimal_at}
use Rattle.text_names.specs.declared.Dictionary.{Dictionary}
use Rattle.text_names.proofs.Entries.{entries_length}
use Rattle.text_declaration.specs.declared.faults.Fault.{Fault}
use Rattle.text_declaration.specs.declared.faults.Fault.TheVariants.{Line, Register, Label, Limit}
use Rattle.text_declaration.specs.declared.lines.Progress as code
use Rattle.text_declaration.specs.Rows.{Row}
use Rattle.text_limits.specs.Limits.{most_registers, most_labels}
use Rattle.text_declaration.specs.Lines.{Progress, Step, with_register, with_label, refused, next, width_of, is_width, is_new_name, is_new_label, unbegun, add_register, reg_line, add_label, at_line}
use Rattle.text_declaration.specs.Stored.{progress_of, Within, Plain}

-- how many names a dictionary holds, by the code's number and by the list
module _ (text : List ℕ) (d : Dictionary) (n : ℕ) where
  room : d.count < n → ltb (length (entries text d)) n ≡ true
  room h = lt-ltb (length (entries text d)) n (subst (λ (k : ℕ). k < n) (sym (entries_length text d)) h)

  full : n ≤ d.count → ltb (length (entries text d)) n ≡ false
  full h = le-ltb (length (entries text d)) n (subst (λ (k : ℕ). n ≤ k) (sym (entries_length text d)) h)

-- a refused line
pub plain_refused : (text : List ℕ) (g : Progress → Step) (q : code.Progress) (f : Fault)
    → ((rs : List Row) → q.rows ≡ length rs → g (progress_of text q rs) ≡ refused f) → Plain text g q (Err f)
plain_refused text g q f is = record { is = is; stays = tt }

-- a line whose definition says the same
pub plain_as : (text : List ℕ) (f g : Progress → Step) (q : code.Progress) (r : Result code.Progress Fault)
    → ((rs : List Row) → q.rows ≡ length rs → f (progress_of text q rs) ≡ g (progress_of text q rs))
    → Plain text g q r → Plain text f q r
plain_as text f g q r e p = record { is = λ rs counted. e rs counted ∙ p.is rs counted; stays = p.stays }

-- registers: whether a name and a width declare a new one
abbrev new_register : List Named → List ℕ → List ℕ → Bool
new_register rs s w = is_new_name rs s && is_width w (decimal_at w 0)

module _ (p : Progress) (s w : List ℕ) where
  abbrev registers_are : List Named → Progress
  registers_are es = record { registers = es; labels = p.labels; rows = p.rows }

  register_taken : new_register p.registers s w ≡ true → ltb (length p.registers) most_registers ≡ true
      → add_register p s w ≡ next (with_register p (record { name = s; number = width_of (decimal_at w 0) }))
  unfolding add_register
  register_taken t u = rw (t, u, add_register)

  register_full : new_register p.registers s w ≡ true → ltb (length p.registers) most_registers ≡ false → add_register p s w ≡ refused Limit
  unfolding add_register
  register_full t u = rw (t, u, add_register)

  register_bad : new_register p.registers s w ≡ false → add_register p s w ≡ refused Register
  unfolding add_register
  register_bad t = rw (t, add_register)

-- a dictionary that has got the name which stands at a start in the text
one_name : (text s : List ℕ) (d e : Dictionary) (start n m : ℕ) → Added d start (length s) n e → s ≡ take (length s) (drop start text) → n ≡ m
    → entries text e ≡ entries text d ++ (record { name = s; number = m } ∷ [])
one_name text s d e start n m a at k =
    a.entries_are text
    ∙ ap (λ (z : Named). entries text d ++ (z ∷ [])) (ap (λ (l : List ℕ). record { name = l; number = n }) (sym at) ∙ ap (λ (i : ℕ). record { name = s; number = i }) k)

module _ (text s w : List ℕ) (q : code.Progress) (h : Within q) where
  abbrev registered : Dictionary → code.Progress
  registered e =
      record { registers = e; labels = q.labels; rows = q.rows; words = q.words; pieces = q.pieces; missing = q.missing }

  pub one_register : (e : Dictionary) (start n : ℕ) → new_register (entries text q.registers) s w ≡ true → q.registers.count < most_registers
      → Added q.registers start (length s) n e → s ≡ take (length s) (drop start text) → n ≡ width_of (decimal_at w 0)
      → Plain text (λ (p : Progress). add_register p s w) q (Ok (registered e))
  one_register e start n t few a at k =
      record {
        is = λ rs counted.
            register_taken (progress_of text q rs) s w t (room text q.registers most_registers few)
            ∙ ap (λ (es : List Named). next (registers_are (progress_of text q rs) s w es)) (sym (one_name text s q.registers e start n (width_of (decimal_at w 0)) a at k));
        stays = record {
          same_rows = refl;
          same_words = refl;
          same_pieces = refl;
          same_missing = refl;
          within = record { few_registers = omega (arith, a.count, few); few_labels = h.few_labels; few_rows = h.few_rows; few_words = h.few_words; few_pieces = h.few_pieces };
        };
      }

  pub no_register : new_register (entries text q.registers) s w ≡ true → most_registers ≤ q.registers.count
      → Plain text (λ (p : Progress). add_register p s w) q (Err Limit)
  no_register t f =
      plain_refused text (λ (p : Progress). add_register p s w) q Limit
      (λ rs counted. register_full (progress_of text q rs) s w t (full text q.registers most_registers f))

  pub bad_register : new_register (entries text q.registers) s w ≡ false → Plain text (λ (p : Progress). add_register p s w) q (Err Register)
  bad_register t =
      plain_refused text (λ (p : Progress). add_register p s w) q Register (λ rs counted. register_bad (progress_of text q rs) s w t)

-- labels
module _ (p : Progress) (s : List ℕ) where
  abbrev labels_are : List Named → Progress
  labels_are es = record { registers = p.registers; labels = es; rows = p.rows }

  label_taken : is_new_label p.labels p.registers s ≡ true → ltb (length p.labels) most_labels ≡ true
      → add_label p s ≡ next (with_label p (record { name = s; number = 0 }))
  unfolding add_label
  label_taken t u = rw (t, u, add_label)

  label_full : is_new_label p.labels p.registers s ≡ true → ltb (length p.labels) most_labels ≡ false → add_label p s ≡ refused Limit
  unfolding add_label
  label_full t u = rw (t, u, add_label)

  label_bad : is_new_label p.labels p.registers s ≡ false → add_label p s ≡ refused Label
  unfolding add_label
  label_bad t = rw (t, add_label)

module _ (text s : List ℕ) (q : code.Progress) (h : Within q) where
  abbrev new_label : Bool
  new_label = is_new_label (entries text q.labels) (entries text q.registers) s

  abbrev labelled : Dictionary → code.Progress
  labelled e =
      record { registers = q.registers; labels = e; rows = q.rows; words = q.words; pieces = q.pieces; missing = q.missing }

  pub one_label : (e : Dictionary) (start : ℕ) → new_label ≡ true → q.labels.count < most_labels → Added q.labels start (length s) 0 e
      → s ≡ take (length s) (drop start text) → Plain text (λ (p : Progress). add_label p s) q (Ok (labelled e))
  one_label e start t few a at =
      record {
        is = λ rs counted.
            label_taken (progress_of text q rs) s t (room text q.labels most_labels few)
            ∙ ap (λ (es : List Named). next (labels_are (progress_of text q rs) s es)) (sym (one_name text s q.labels e start 0 0 a at refl));
        stays = record {
          same_rows = refl;
          same_words = refl;
          same_pieces = refl;
          same_missing = refl;
          within = record { few_registers = h.few_registers; few_labels = omega (arith, a.count, few); few_rows = h.few_rows; few_words = h.few_words; few_pieces = h.few_pieces };
        };
      }

  pub no_label : new_label ≡ true → most_labels ≤ q.labels.count → Plain text (λ (p : Progress). add_label p s) q (Err Limit)
  no_label t f =
      plain_refused text (λ (p : Progress). add_label p s) q Limit
      (λ rs counted. label_full (progress_of text q rs) s t (full text q.labels most_labels f))

  pub bad_label : new_label ≡ false → Plain text (λ (p : Progress). add_label p s) q (Err Label)
  bad_label t = plain_refused text (λ (p : Progress). add_label p s) q Label (λ rs counted. label_bad (progress_of text q rs) s t)

-- whether there were `reg` lines alone, by the code's numbers
pub unbegun_is : (text : List ℕ) (q : code.Progress) (rs : List Row) → q.rows ≡ length rs → unbegun (progress_of text q rs) ≡ eqb (q.labels.count + q.rows) 0
unbegun_is text q rs e = ap (λ (n : ℕ). eqb (n + length rs) 0) (entries_length text q.labels) ∙ ap (λ (n : ℕ). eqb (q.labels.count + n) 0) (sym e)

-- whole lines, by their fields
module _ (p : Progress) (s : List ℕ) where
  pub reg_fields : has_fields 3 s && unbegun p ≡ true → reg_line p s ≡ add_register p (field 1 s) (field 2 s)
  unfolding reg_line
  reg_fields t = rw (t, reg_line)

  pub reg_malformed : has_fields 3 s && unbegun p ≡ false → reg_line p s ≡ refused Line
  unfolding reg_line
  reg_malformed t = rw (t, reg_line)

  pub at_fields : has_fields 2 s ≡ true → at_line p s ≡ add_label p (field 1 s)
  unfolding at_line
  at_fields t = rw (t, at_line)

  pub at_malformed : has_fields 2 s ≡ false → at_line p s ≡ refused Line
  unfolding at_line
  at_malformed t = rw (t, at_line)
