-- Whatever is said is read, where no operator follows that belongs to it; so a stretch says one tree.
-- Assumes nothing.
use mathlib.Core.Path.{◌≡◌, refl, sym, ap, ◌∙◌}
use mathlib.Core.Bool.{false}
use mathlib.Core.List.{List, []}
use Prim.Native.Nat.{ℕ, zero, suc, ◌+◌, ◌-◌, ◌≤◌, ◌<◌}
use native.Mathlib.Omega.{arith}
use lib.Dec.{eqb}
use lib.ListN.{length}
use borrow.Author.Tests.{le-leb, eq-eqb, eqb-true, eqb-false}
use Rattle.std.specs.Prelude.{Some}
use Rattle.text_constants.specs.Constants.{plain, found}
use Rattle.laws.proofs.Tests.{by_test}
use Rattle.laws.proofs.Lists.{present}
use Rattle.word.specs.Word.{widest}
use Rattle.characters.specs.Characters.{same}
use Rattle.characters.specs.Named.{Named}
use Rattle.characters.specs.declared.Class.TheVariants as class
use Rattle.characters.proofs.Runs.{onward}
use Rattle.text_operators.specs.Operators.{entry_in, weakest, strongest, rotations}
use Rattle.text_tokens.specs.Tokens.{skip, next, after_token, operator_at}
use Rattle.text_tokens.proofs.Tokens.{round_open_lem, round_close_lem, square_open_lem, square_close_lem, word, word_end, after_word, token_first, token_after}
use Rattle.text_tokens.specs.Signs.{round_open, round_close, square_open, square_close, not_token, memory_token}
use Rattle.text_bit_parts.specs.References.{reference_at}
use Rattle.text_bit_parts.specs.declared.Reference.TheVariants.{Whole, Part}
use Rattle.text_bit_parts.proofs.Refers.{refers_read}
use Rattle.text_bit_parts.proofs.Onward.{word_of_letter, letters_past, reference_past, operator_inside, operator_past}
use Rattle.text_constants.proofs.Places.{Past, decimal_past, constant_past}
use Rattle.text_code.specs.Tree.{Expr, register, bit_part, constant, memory, complemented, rotated, binary, width, largest_count}
use Rattle.text_code.specs.Readings.{Reading, read, outside, limited, of_reference, of_constant, not_of, closed, inside, rotation_of, joined}
use Rattle.text_grammar.specs.Says.{strength, Name, Says, stronger, operates, rotates, complements, encloses, fetches, is_register, is_part, is_constant}
use Rattle.text_grammar.specs.Grammar.{level, more, operation, operand, worded, negated, enclosed, fuel}
use Rattle.text_grammar.specs.Met.{calls}
use Rattle.text_grammar.proofs.Calls.{level_operand, level_more, more_stops, more_goes_on, operation_rotates, operation_joins, operand_encloses, operand_worded, operand_constant, worded_not, worded_memory, worded_name, negated_in, enclosed_in}
use Rattle.text_grammar.proofs.Firsts.{round_weak, square_weak, not_letter, memory_letter, not_word_lem, memory_word, word_not, word_memory, no_open, constant_first, is_word_lem, is_no_word, memory_no_not}
use Rattle.text_grammar.proofs.Said.{not_itself, memory_itself}

-- one call more
pred : (P : ℕ → Type 0) (n : ℕ) → ((f : ℕ) → n ≤ f → P (suc f)) → (f : ℕ) → suc n ≤ f → P f
pred P n h zero l = absurd (omega arith)
pred P n h (suc f) l = h f (omega arith)

-- what the reader makes of what is within the rules
module _ (s : List ℕ) where
  limited_is : (t : Expr) (p : ℕ) → width t ≤ widest → limited t p ≡ read t p
  unfolding limited
  limited_is t p h = rw (le-leb (width t) widest h, limited)

  whole_is : (r w p : ℕ) → w ≤ widest → of_reference (Some (Whole r w p)) ≡ read (register r w) p
  unfolding of_reference
  whole_is r w p h = limited_is (register r w) p h

  part_is : (r w a b p : ℕ) → width (bit_part r w a b) ≤ widest → of_reference (Some (Part r w a b p)) ≡ read (bit_part r w a b) p
  unfolding of_reference
  part_is r w a b p h = limited_is (bit_part r w a b) p h

  constant_is : (v w p : ℕ) → w ≤ widest → of_constant (found v w p) ≡ read (constant w v) p
  unfolding of_constant
  constant_is v w p h = limited_is (constant w v) p h

  joined_is : (row : ℕ) (l r : Expr) (p : ℕ) → width (binary (entry_in row).operator l r) ≤ widest → joined row l (read r p) ≡ read (binary (entry_in row).operator l r) p
  unfolding joined
  joined_is row l r p h = limited_is (binary (entry_in row).operator l r) p h

  rotation_is : (row : ℕ) (l : Expr) (n p : ℕ) → n ≤ largest_count → rotation_of row l (plain n p) ≡ read (rotated (entry_in row).operator l n) p
  unfolding rotation_of
  rotation_is row l n p h = rw (le-leb n largest_count h, rotation_of)

  not_is : (t : Expr) (p : ℕ) → not_of (read t p) ≡ read (complemented t) p
  unfolding not_of
  not_is t p = refl

  closed_is : (close : ℕ) (t : Expr) (q : ℕ) → next s q ≡ close → closed s close (read t q) ≡ read (inside close t) (skip s q + 1)
  unfolding closed
  closed_is close t q e = rw (eq-eqb (next s q) close e, closed)

-- no operator stands at the end of the field
pub end_weak : (s : List ℕ) → strength s (length s) ≡ 0
end_weak s =
    by_test (eqb (strength s (length s)) 0)
    (λ t. eqb-true (strength s (length s)) 0 t)
    (λ t.
    let n = eqb-false (strength s (length s)) 0 t in
    let k : 0 < strength s (length s) = positive (strength s (length s)) n in
    absurd (omega (arith, onward class.Space s (length s), operator_inside s (length s) (strength s (length s)) refl k)))
  where
    positive : (k : ℕ) → (k ≡ 0 → ⊥) → 0 < k
    positive zero h = absurd (h refl)
    positive (suc k) h = omega arith

module _ (rs : List Named) (s : List ℕ) where
  -- what is said ends after its start and within the field
  pub said_past : {d k at p : ℕ} {t : Expr} → Says rs s d k at p t → 1 ≤ k → Past s at p
  said_past (stronger h) o = said_past h (omega arith)
  said_past (operates {k = k} {q = q} h e n g w) o =
      let x = said_past h o in
      let y = (operator_past s q k e o).1 in
      let z = said_past g (omega arith) in
      omega (arith, x, y, z)
  said_past (rotates {q = q} h e g l) o =
      let x = said_past h o in
      let y = (operator_past s q rotations e o).1 in
      let z = decimal_past s (skip s (after_token s q)) g in
      omega (arith, x, y, z, onward class.Space s (after_token s q))
  said_past (complements {at = at} e l h) o =
      let i = not_letter s at e in
      omega (arith, after_word s at (word_of_letter (next s at) i), onward class.Space s at, letters_past s (skip s at) (word_end s at) i refl, said_past h o)
  said_past (encloses {at = at} {q = q} e l h c) o =
      let c' = token_first s q round_close [] c in
      omega (arith, token_after s at round_open round_open_lem e, token_after s q round_close round_close_lem c, onward class.Space s at, onward class.Space s q, said_past h (omega arith), present s (skip s q) round_close c' (omega arith))
  said_past (fetches {at = at} {q = q} w e l h c) o =
      let i = memory_letter s at w in
      let c' = token_first s q square_close [] c in
      omega (
        arith,
        after_word s at (word_of_letter (next s at) i),
        token_after s (after_token s at) square_open square_open_lem e,
        token_after s q square_close square_close_lem c,
        onward class.Space s at,
        letters_past s (skip s at) (word_end s at) i refl,
        onward class.Space s (after_token s at),
        onward class.Space s q,
        said_past h (omega arith),
        present s (skip s q) square_close c' (omega arith),
      )
  said_past (is_register {at = at} n g w) o =
      omega (arith, onward class.Space s at, reference_past rs s (skip s at) (word_of_letter (next s at) n.letter) (refers_read rs s (skip s at) g))
  said_past (is_part {at = at} n g w) o =
      omega (arith, onward class.Space s at, reference_past rs s (skip s at) (word_of_letter (next s at) n.letter) (refers_read rs s (skip s at) g))
  said_past (is_constant {at = at} g w) o = omega (arith, onward class.Space s at, constant_past s (skip s at) g)

  -- no strength is above Not's
  said_most : {d k at p : ℕ} {t : Expr} → Says rs s d k at p t → k ≤ strongest
  said_most (stronger h) = omega (arith, said_most h)
  said_most (operates h e n g w) = said_most h
  said_most (rotates h e g l) = omega arith
  said_most (complements e l h) = omega arith
  said_most (encloses e l h c) = omega arith
  said_most (fetches w e l h c) = omega arith
  said_most (is_register n g w) = omega arith
  said_most (is_part n g w) = omega arith
  said_most (is_constant g w) = omega arith

  -- what is said is read: to its end where no stronger or equal operator follows, and else on from there
  record Reached (d k at p : ℕ) (t : Expr) : Type 0 where
    exactly : strength s p < k → (f : ℕ) → calls s at (9 - k) ≤ f → level f rs s d k at ≡ read t p
    further : k < strongest → strength s p ≤ k → (x : Reading) → ((f : ℕ) → calls s p 9 ≤ f → more f rs s d k (read t p) ≡ x)
        → (f : ℕ) → calls s at (9 - k) ≤ f → level f rs s d k at ≡ x

  abbrev Further : ℕ → ℕ → ℕ → ℕ → Expr → Type 0
  Further d k at p t = strength s p ≤ k → (x : Reading) → ((f : ℕ) → calls s p 9 ≤ f → more f rs s d k (read t p) ≡ x)
      → (f : ℕ) → calls s at (9 - k) ≤ f → level f rs s d k at ≡ x

  reached : {d k at p : ℕ} {t : Expr} → Further d k at p t → Reached d k at p t
  reached {d} {k} {at} {p} {t} h =
      record {
        exactly = λ l f i. h (omega arith) (read t p)
            (λ g j. pred (λ (n : ℕ). more n rs s d k (read t p) ≡ read t p) (calls s p 8)
            (λ n m. more_stops rs s d k t p (operator_at s p) refl (entry_in (operator_at s p)) refl (λ e. omega (arith, l, e)) n) g (omega arith)) f i;
        further = λ l. h;
      }

  -- an operand is read whole
  at_strongest : {d at p : ℕ} {t : Expr} → at < p → p ≤ length s
      → (strength s p < strongest → (f : ℕ) → suc (calls s at 0) ≤ f → operand f rs s d at ≡ read t p) → Reached d strongest at p t
  at_strongest {d} {at} {p} {t} a b h =
      record {
        exactly = λ l f i. pred (λ (n : ℕ). level n rs s d strongest at ≡ read t p) (calls s at 1) (λ n m. level_operand rs s d strongest at refl n ∙ h l n (omega arith)) f (omega arith);
        further = λ l. absurd (omega arith);
      }

  -- a name
  named : {d at p : ℕ} {t : Expr} → Past s at p → Name s at → of_reference (reference_at rs s (skip s at)) ≡ read t p → Reached d strongest at p t
  named {d} {at} {p} {t} h i g =
      at_strongest h.0 h.1
      (λ l. pred (λ (n : ℕ). operand n rs s d at ≡ read t p) (calls s at 0)
      (λ n j. operand_worded rs s d at (skip s at) (next s at) refl refl (no_open (next s at) i.letter) i.letter n
      ∙ pred (λ (n : ℕ). worded n rs s d (skip s at) ≡ read t p) (calls s at 0 - 1)
      (λ n j. worded_name rs s d (skip s at) (word_end s at) (word s at) refl refl
      (is_no_word (word s at) not_token (λ e. i.no_not (word_not s at e))) (is_no_word (word s at) memory_token (λ e. i.no_memory (word_memory s at e))) n ∙ g) n (omega (arith, h))))

  all_read : {d k at p : ℕ} {t : Expr} → Says rs s d k at p t → 1 ≤ k → Reached d k at p t
  all_read (stronger {d = d} {k = k} {at = at} {p = p} {t = t} h) o =
      let ih = all_read h (omega arith) in
      let y = said_past h (omega arith) in
      let z = said_most h in
      reached (λ l x m f i.
      pred (λ (n : ℕ). level n rs s d k at ≡ x) (calls s at (8 - k))
      (λ n j. level_more rs s d k at (omega arith) n ∙ ap (more n rs s d k) (ih.exactly (omega arith) n (omega arith)) ∙ m n (omega arith)) f (omega arith))
  all_read (operates {d = d} {k = k} {at = at} {q = q} {p = p} {l = l} {r = r} h e n g w) o =
      let ih = all_read h o in
      let jh = all_read g (omega arith) in
      let y = (operator_past s q k e o).1 in
      let z = said_past g (omega arith) in
      let u = said_most g in
      let row = operator_at s q in
      let t = binary (entry_in row).operator l r in
      reached (λ le x m.
      ih.further (omega arith) (omega (arith, e)) x
      (λ a b. pred (λ (i : ℕ). more i rs s d k (read l q) ≡ x) (calls s q 8)
      (λ i j. more_goes_on rs s d k l q row refl (entry_in row) refl e i
      ∙ ap (more i rs s d k)
      (pred (λ (c : ℕ). operation c rs s d k l q ≡ read t p) (calls s q 7)
      (λ c a. operation_joins rs s d k l q row refl (after_token s q) refl n c ∙ ap (joined row l) (jh.exactly (omega arith) c (omega arith)) ∙ joined_is s row l r p w) i (omega arith))
      ∙ m i (omega arith)) a (omega arith)))
  all_read (rotates {d = d} {at = at} {q = q} {n = n} {p = p} {l = l} h e g few) o =
      let ih = all_read h o in
      let y = (operator_past s q rotations e o).1 in
      let z = decimal_past s (skip s (after_token s q)) g in
      let v = onward class.Space s (after_token s q) in
      let row = operator_at s q in
      let t = rotated (entry_in row).operator l n in
      reached (λ le x m.
      ih.further (omega arith) (omega (arith, e)) x
      (λ a b. pred (λ (i : ℕ). more i rs s d rotations (read l q) ≡ x) (calls s q 8)
      (λ i j. more_goes_on rs s d rotations l q row refl (entry_in row) refl e i
      ∙ ap (more i rs s d rotations)
      (pred (λ (c : ℕ). operation c rs s d rotations l q ≡ read t p) (calls s q 7)
      (λ c a. operation_rotates rs s d rotations l q row refl (after_token s q) refl refl c ∙ ap (rotation_of row l) g ∙ rotation_is s row l n p few) i (omega arith))
      ∙ m i (omega arith)) a (omega arith)))
  all_read (complements {d = d} {at = at} {p = p} {t = t} e b h) o =
      let ih = all_read h o in
      let i = not_letter s at e in
      let y = letters_past s (skip s at) (word_end s at) i refl in
      let v = onward class.Space s at in
      let z = said_past h o in
      let x = after_word s at (word_of_letter (next s at) i) in
      at_strongest (omega (arith, x, y, v, z)) z.1
      (λ l. pred (λ (n : ℕ). operand n rs s d at ≡ read (complemented t) p) (calls s at 0)
      (λ n j. operand_worded rs s d at (skip s at) (next s at) refl refl (no_open (next s at) i) i n
      ∙ pred (λ (n : ℕ). worded n rs s d (skip s at) ≡ read (complemented t) p) (calls s at 0 - 1)
      (λ n j. worded_not rs s d (skip s at) (word_end s at) (word s at) refl refl (is_word_lem (word s at) not_token not_itself (not_word_lem s at e)) n
      ∙ pred (λ (n : ℕ). negated n rs s d (word_end s at) ≡ read (complemented t) p) (calls s at 0 - 2)
      (λ n j. negated_in rs s d (word_end s at) b n ∙ ap not_of (ap (level n rs s (d + 1) strongest) (sym x) ∙ ih.exactly l n (omega arith)) ∙ not_is s t p) n (omega arith))
      n (omega arith)))
  all_read (encloses {d = d} {at = at} {q = q} {t = t} e b h c) o =
      let ih = all_read h (omega arith) in
      let v = onward class.Space s at in
      let u = onward class.Space s q in
      let z = said_past h (omega arith) in
      let o' = token_first s at round_open [] e in
      let c' = token_first s q round_close [] c in
      let y = present s (skip s q) round_close c' (omega arith) in
      let weak = round_weak s q c in
      let x = token_after s at round_open round_open_lem e in
      let w = token_after s q round_close round_close_lem c in
      at_strongest (omega arith) (omega arith)
      (λ l. pred (λ (n : ℕ). operand n rs s d at ≡ read t (after_token s q)) (calls s at 0)
      (λ n j. operand_encloses rs s d at (skip s at) (next s at) refl refl o' n
      ∙ pred (λ (n : ℕ). enclosed n rs s d round_close (skip s at + 1) ≡ read t (after_token s q)) (calls s at 0 - 1)
      (λ n j. enclosed_in rs s d (skip s at + 1) round_close b n
      ∙ ap (closed s round_close) (ap (level n rs s (d + 1) weakest) (sym x) ∙ ih.exactly (omega (arith, weak)) n (omega arith))
      ∙ closed_is s round_close t q c' ∙ ap (read t) (sym w))
      n (omega arith)))
  all_read (fetches {d = d} {at = at} {q = q} {t = t} w e b h c) o =
      let ih = all_read h (omega arith) in
      let i = memory_letter s at w in
      let v = onward class.Space s at in
      let x = letters_past s (skip s at) (word_end s at) i refl in
      let k = onward class.Space s (word_end s at) in
      let u = onward class.Space s q in
      let z = said_past h (omega arith) in
      let c' = token_first s q square_close [] c in
      let y = present s (skip s q) square_close c' (omega arith) in
      let weak = square_weak s q c in
      let a = after_word s at (word_of_letter (next s at) i) in
      let e' : next s (word_end s at) ≡ square_open = ap (next s) (sym a) ∙ token_first s (after_token s at) square_open [] e in
      let g : after_token s (after_token s at) ≡ skip s (word_end s at) + 1 = token_after s (after_token s at) square_open square_open_lem e ∙ ap (λ (j : ℕ). skip s j + 1) a in
      let last = token_after s q square_close square_close_lem c in
      let m = memory_word s at w in
      let no : same (word s at) not_token ≡ false = ap (λ (z : List ℕ). same z not_token) m ∙ memory_no_not in
      at_strongest (omega arith) (omega arith)
      (λ l. pred (λ (n : ℕ). operand n rs s d at ≡ read (memory t) (after_token s q)) (calls s at 0)
      (λ n j. operand_worded rs s d at (skip s at) (next s at) refl refl (no_open (next s at) i) i n
      ∙ pred (λ (n : ℕ). worded n rs s d (skip s at) ≡ read (memory t) (after_token s q)) (calls s at 0 - 1)
      (λ n j. worded_memory rs s d (skip s at) (word_end s at) (word s at) refl refl no (is_word_lem (word s at) memory_token memory_itself m) (skip s (word_end s at)) (next s (word_end s at)) refl refl e' n
      ∙ pred (λ (n : ℕ). enclosed n rs s d square_close (skip s (word_end s at) + 1) ≡ read (memory t) (after_token s q)) (calls s at 0 - 2)
      (λ n j. enclosed_in rs s d (skip s (word_end s at) + 1) square_close b n
      ∙ ap (closed s square_close) (ap (level n rs s (d + 1) weakest) (sym g) ∙ ih.exactly (omega (arith, weak)) n (omega arith))
      ∙ closed_is s square_close t q c' ∙ ap (read (memory t)) (sym last))
      n (omega arith)) n (omega arith)))
  all_read (is_register {d = d} {at = at} {r = r} {w = w} {p = p} n g l) o = named (said_past (is_register {d = d} n g l) o) n (ap of_reference (refers_read rs s (skip s at) g) ∙ whole_is s r w p l)
  all_read (is_part {d = d} {at = at} {r = r} {w = w} {a = a} {b = b} {p = p} n g l) o = named (said_past (is_part {d = d} n g l) o) n (ap of_reference (refers_read rs s (skip s at) g) ∙ part_is s r w a b p l)
  all_read (is_constant {d = d} {at = at} {v = v} {w = w} {p = p} g l) o =
      let h = said_past (is_constant {d = d} g l) o in
      let x = constant_first s (skip s at) g in
      at_strongest h.0 h.1
      (λ m. pred (λ (n : ℕ). operand n rs s d at ≡ read (constant w v) p) (calls s at 0)
      (λ n j. operand_constant rs s d at (skip s at) (next s at) refl refl x.0 x.1 n ∙ ap of_constant g ∙ constant_is s v w p l))

  -- with as many calls as the definition has, from any place of the field
  pub says_read : {at p : ℕ} {t : Expr} → Says rs s 0 weakest at p t → strength s p ≡ 0 → level (fuel s) rs s 0 weakest at ≡ read t p
  says_read h e = (all_read h (omega arith)).exactly (omega (arith, e)) (fuel s) (omega arith)

  -- one tree, which ends in one place
  pub one_tree : {at p q : ℕ} {t u : Expr} → Says rs s 0 weakest at p t → strength s p ≡ 0 → Says rs s 0 weakest at q u → strength s q ≡ 0 → t ≡ u
  one_tree {at} {p} {q} {t} {u} h e g i = ap (λ (x : Reading). tree_of t x) (sym (says_read h e) ∙ says_read g i)
    where
      tree_of : Expr → Reading → Expr
      tree_of d (read a b) = a
      tree_of d outside = d
