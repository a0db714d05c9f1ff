-- What is read is said: by every number of calls, a level of the reader's definition yields only trees that the grammar's rules give to the stretch.
-- Assumes nothing.
use mathlib.Core.Path.{◌≡◌, refl, sym, ap, subst, ◌∙◌}
use mathlib.Core.Bool.{true, false, false≢true}
use mathlib.Core.List.{List}
use Prim.Native.Nat.{ℕ, zero, suc, ◌+◌, ◌<◌}
use lib.Dec.{eqb, leb, ltb}
use borrow.Author.Tests.{ltb-true, leb-true, eqb-true}
use Rattle.std.specs.Prelude.{Option, Some, None}
use Rattle.laws.proofs.Tests.{by_case}
use Rattle.word.specs.Word.{widest}
use Rattle.characters.specs.Characters.{is_letter, same}
use Rattle.characters.specs.Named.{Named}
use Rattle.characters.proofs.Strings.{equal}
use Rattle.text_constants.specs.Constants.{constant_at, decimal_at}
use Rattle.text_constants.specs.declared.Number.{Number}
use Rattle.text_constants.specs.declared.Constant.{Constant}
use Rattle.text_operators.specs.Operators.{weakest, strongest, rotations}
use Rattle.text_tokens.specs.Tokens.{skip, next, after_token, operator_at}
use Rattle.text_tokens.specs.Signs.{round_open, round_close, square_open, square_close, not_token, memory_token}
use Rattle.text_bit_parts.specs.References.{reference_at}
use Rattle.text_bit_parts.proofs.Refers.{whole_referred, part_referred}
use Rattle.text_bit_parts.specs.declared.Reference.{Reference}
use Rattle.text_bit_parts.specs.declared.Reference.TheVariants.{Whole, Part}
use Rattle.text_tokens.proofs.Tokens.{round_open_lem, round_close_lem, square_open_lem, square_close_lem, word, word_end, after_word, sign_after, sign_token}
use Rattle.text_bit_parts.proofs.Onward.{word_of_letter}
use Rattle.text_code.specs.Tree.{Expr, memory, bit_part, binary, width, largest_count}
use Rattle.text_code.specs.Readings.{Reading, read, outside, limited, of_reference, of_constant, not_of, closed, rotation_of, joined}
use Rattle.text_grammar.specs.Says.{deepest, operator, strength, Name, Says, stronger, operates, rotates, complements, encloses, fetches, is_register, is_part, is_constant}
use Rattle.text_grammar.proofs.Firsts.{not_letter, memory_letter, not_word_lem, memory_word, word_not, word_memory}
use Rattle.text_grammar.specs.Grammar.{level, more, operation, operand, worded, negated, enclosed}

-- a word that isn't another
pub other_word : (a b : List ℕ) → same b b ≡ true → same a b ≡ false → a ≡ b → ⊥
other_word a b i e h = false≢true (sym e ∙ ap (λ (z : List ℕ). same z b) h ∙ i)

pub not_itself : same not_token not_token ≡ true
unfolding same
not_itself = refl

pub memory_itself : same memory_token memory_token ≡ true
unfolding same
memory_itself = refl

module _ (rs : List Named) (s : List ℕ) where
  -- of a reading: its tree is said
  abbrev pub Said : ℕ → ℕ → ℕ → Reading → Type 0
  Said d k at (read t p) = Says rs s d k at p t
  Said d k at outside = Unit {0}

  -- what each form makes of what was read
  weaker : (d k at : ℕ) (x : Reading) → Said d (k + 1) at x → Said d k at x
  weaker d k at (read t p) h = stronger h
  weaker d k at outside h = tt

  reference_said : (d at : ℕ) (x : Option Reference) → Name s at → reference_at rs s (skip s at) ≡ x → Said d strongest at (of_reference x)
  unfolding of_reference limited
  reference_said d at (Some (Whole r w p)) n e = by_case (Said d strongest at) (leb w widest) (λ u. is_register n (whole_referred rs s (skip s at) r w p e) (leb-true w widest u)) (λ u. tt)
  reference_said d at (Some (Part r w a b p)) n e =
      by_case (Said d strongest at) (leb (width (bit_part r w a b)) widest) (λ u. is_part n (part_referred rs s (skip s at) r w a b p e) (leb-true (width (bit_part r w a b)) widest u)) (λ u. tt)
  reference_said d at None n e = tt

  constant_said : (d at : ℕ) (x : Option Constant) → constant_at s (skip s at) ≡ x → Said d strongest at (of_constant x)
  unfolding of_constant limited
  constant_said d at (Some c) e = by_case (Said d strongest at) (leb c.width widest) (λ u. is_constant e (leb-true c.width widest u)) (λ u. tt)
  constant_said d at None e = tt

  not_said : (d at : ℕ) (x : Reading) → word s at ≡ not_token → d < deepest → Said (d + 1) strongest (word_end s at) x → Said d strongest at (not_of x)
  unfolding not_of
  not_said d at (read t p) e l h =
      let k = word_not s at e in
      complements k l (subst (λ (i : ℕ). Says rs s (d + 1) strongest i p t) (sym (after_word s at (word_of_letter (next s at) (not_letter s at k)))) h)
  not_said d at outside e l h = tt

  round_said : (d at : ℕ) (x : Reading) → next s at ≡ round_open → d < deepest → Said (d + 1) weakest (skip s at + 1) x → Said d strongest at (closed s round_close x)
  unfolding closed
  round_said d at (read t p) e l h =
      by_case (Said d strongest at) (eqb (next s p) round_close)
      (λ u.
      let c = eqb-true (next s p) round_close u in
      subst (λ (i : ℕ). Says rs s d strongest at i t) (sign_after s p round_close round_close_lem c)
      (encloses (sign_token s at round_open round_open_lem e) l (subst (λ (i : ℕ). Says rs s (d + 1) weakest i p t) (sym (sign_after s at round_open round_open_lem e)) h)
      (sign_token s p round_close round_close_lem c)))
      (λ u. tt)
  round_said d at outside e l h = tt

  square_said : (d at : ℕ) (x : Reading) → word s at ≡ memory_token → next s (word_end s at) ≡ square_open → d < deepest
      → Said (d + 1) weakest (skip s (word_end s at) + 1) x → Said d strongest at (closed s square_close x)
  unfolding closed
  square_said d at (read t p) w e l h =
      by_case (Said d strongest at) (eqb (next s p) square_close)
      (λ u.
      let c = eqb-true (next s p) square_close u in
      let k = word_memory s at w in
      let z = after_word s at (word_of_letter (next s at) (memory_letter s at k)) in
      let o : next s (after_token s at) ≡ square_open = ap (next s) z ∙ e in
      let y : skip s (word_end s at) + 1 ≡ after_token s (after_token s at) = ap (λ (i : ℕ). skip s i + 1) (sym z) ∙ sym (sign_after s (after_token s at) square_open square_open_lem o) in
      subst (λ (i : ℕ). Says rs s d strongest at i (memory t)) (sign_after s p square_close square_close_lem c)
      (fetches k (sign_token s (after_token s at) square_open square_open_lem o) l (subst (λ (i : ℕ). Says rs s (d + 1) weakest i p t) y h)
      (sign_token s p square_close square_close_lem c)))
      (λ u. tt)
  square_said d at outside w e l h = tt

  rotation_said : (d at q : ℕ) (l : Expr) (n : Option Number) → Says rs s d rotations at q l → strength s q ≡ rotations → decimal_at s (skip s (after_token s q)) ≡ n
      → Said d rotations at (rotation_of (operator_at s q) l n)
  unfolding rotation_of
  rotation_said d at q l (Some c) h e g = by_case (Said d rotations at) (leb c.value largest_count) (λ u. rotates h e g (leb-true c.value largest_count u)) (λ u. tt)
  rotation_said d at q l None h e g = tt

  joined_said : (d k at q : ℕ) (l : Expr) (x : Reading) → Says rs s d k at q l → strength s q ≡ k → (k ≡ rotations → ⊥) → Said d (k + 1) (after_token s q) x
      → Said d k at (joined (operator_at s q) l x)
  unfolding joined limited
  joined_said d k at q l (read r p) h e n g =
      by_case (Said d k at) (leb (width (binary (operator s q) l r)) widest) (λ u. operates h e n g (leb-true _ widest u)) (λ u. tt)
  joined_said d k at q l outside h e n g = tt

  -- the reader's functions, call by call
  mutual
    unfolding level more operation operand worded negated enclosed

    level_said : (f d k at : ℕ) → Said d k at (level f rs s d k at)
    level_said zero d k at = tt
    level_said (suc f) d k at =
        by_case (Said d k at) (eqb k strongest)
        (λ t. subst (λ (j : ℕ). Said d j at (operand f rs s d at)) (sym (eqb-true k strongest t)) (operand_said f d at))
        (λ t. more_said f d k at (level f rs s d (k + 1) at) (weaker d k at (level f rs s d (k + 1) at) (level_said f d (k + 1) at)))

    more_said : (f d k at : ℕ) (x : Reading) → Said d k at x → Said d k at (more f rs s d k x)
    more_said zero d k at x h = tt
    more_said (suc f) d k at (read l p) h =
        by_case (Said d k at) (eqb (strength s p) k)
        (λ t. more_said f d k at (operation f rs s d k l p) (operation_said f d k at l p h (eqb-true (strength s p) k t)))
        (λ t. h)
    more_said (suc f) d k at outside h = tt

    operation_said : (f d k at : ℕ) (l : Expr) (p : ℕ) → Says rs s d k at p l → strength s p ≡ k → Said d k at (operation f rs s d k l p)
    operation_said zero d k at l p h e = tt
    operation_said (suc f) d k at l p h e =
        by_case (Said d k at) (eqb k rotations)
        (λ t.
        let g = eqb-true k rotations t in
        subst (λ (j : ℕ). Said d j at (rotation_of (operator_at s p) l (decimal_at s (skip s (after_token s p))))) (sym g)
        (rotation_said d at p l (decimal_at s (skip s (after_token s p))) (subst (λ (j : ℕ). Says rs s d j at p l) g h) (e ∙ g) refl))
        (λ t. joined_said d k at p l (level f rs s d (k + 1) (after_token s p)) h e (λ g. off t g) (level_said f d (k + 1) (after_token s p)))
      where
        off : eqb k rotations ≡ false → k ≡ rotations → ⊥
        off t g = false≢true (sym t ∙ ap (λ (j : ℕ). eqb j rotations) g)

    operand_said : (f d at : ℕ) → Said d strongest at (operand f rs s d at)
    operand_said zero d at = tt
    operand_said (suc f) d at =
        by_case (Said d strongest at) (eqb (next s at) round_open)
        (λ t. enclosed_said f d at (eqb-true (next s at) round_open t))
        (λ t.
        by_case (Said d strongest at) (is_letter (next s at))
        (λ u. worded_said f d at u)
        (λ u. constant_said d at (constant_at s (skip s at)) refl))

    worded_said : (f d at : ℕ) → is_letter (next s at) ≡ true → Said d strongest at (worded f rs s d (skip s at))
    worded_said zero d at i = tt
    worded_said (suc f) d at i =
        by_case (Said d strongest at) (same (word s at) not_token)
        (λ t. negated_said f d at (equal (word s at) not_token t))
        (λ t.
        by_case (Said d strongest at) (same (word s at) memory_token)
        (λ u.
        by_case (Said d strongest at) (eqb (next s (word_end s at)) square_open)
        (λ v. fetched_said f d at (equal (word s at) memory_token u) (eqb-true (next s (word_end s at)) square_open v))
        (λ v. tt))
        (λ u.
        reference_said d at (reference_at rs s (skip s at))
        (record { letter = i; no_not = λ e. other_word (word s at) not_token not_itself t (not_word_lem s at e); no_memory = λ e. other_word (word s at) memory_token memory_itself u (memory_word s at e) }) refl))

    negated_said : (f d at : ℕ) → word s at ≡ not_token → Said d strongest at (negated f rs s d (word_end s at))
    negated_said zero d at e = tt
    negated_said (suc f) d at e =
        by_case (Said d strongest at) (ltb d deepest)
        (λ t. not_said d at (level f rs s (d + 1) strongest (word_end s at)) e (ltb-true d deepest t) (level_said f (d + 1) strongest (word_end s at)))
        (λ t. tt)

    enclosed_said : (f d at : ℕ) → next s at ≡ round_open → Said d strongest at (enclosed f rs s d round_close (skip s at + 1))
    enclosed_said zero d at e = tt
    enclosed_said (suc f) d at e =
        by_case (Said d strongest at) (ltb d deepest)
        (λ t. round_said d at (level f rs s (d + 1) weakest (skip s at + 1)) e (ltb-true d deepest t) (level_said f (d + 1) weakest (skip s at + 1)))
        (λ t. tt)

    fetched_said : (f d at : ℕ) → word s at ≡ memory_token → next s (word_end s at) ≡ square_open
        → Said d strongest at (enclosed f rs s d square_close (skip s (word_end s at) + 1))
    fetched_said zero d at w e = tt
    fetched_said (suc f) d at w e =
        by_case (Said d strongest at) (ltb d deepest)
        (λ t.
        square_said d at (level f rs s (d + 1) weakest (skip s (word_end s at) + 1)) w e (ltb-true d deepest t)
        (level_said f (d + 1) weakest (skip s (word_end s at) + 1)))
        (λ t. tt)

  pub read_said : (f d k at p : ℕ) (t : Expr) → level f rs s d k at ≡ read t p → Says rs s d k at p t
  read_said f d k at p t e = subst (Said d k at) e (level_said f d k at)
