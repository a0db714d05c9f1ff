-- The reader's definition of whole fields is what the rules say: an expression or a destination is read exactly where the field is one, and it is one in one way.
-- And a field that is one has whole tokens only, with spaces between them.
-- Assumes nothing.
use mathlib.Core.Path.{◌≡◌, refl, sym, ap, subst, ◌∙◌}
use mathlib.Core.Bool.{Bool, true, false, not, ◌&&◌}
use mathlib.Core.List.{List, []}
use Prim.Native.Nat.{ℕ, ◌+◌, ◌-◌}
use native.Mathlib.Omega.{arith}
use lib.Dec.{eqb, leb, ltb}
use lib.ListN.{length, get_or}
use borrow.Author.Tests.{eq-eqb, eqb-true, le-leb, leb-true, ltb-true, ltb-false}
use Rattle.std.specs.Prelude.{Option, Some, None}
use Rattle.laws.proofs.Tests.{by_test, by_case}
use Rattle.laws.proofs.Joined.{and_left, and_right}
use Rattle.characters.specs.Ascii.{ascii, byte_of}
use Rattle.characters.specs.Characters.{is_word, run_end, same}
use Rattle.characters.specs.Named.{Named}
use Rattle.characters.specs.declared.Class.TheVariants as class
use Rattle.characters.proofs.Runs.{at_end, stops}
use Rattle.characters.proofs.Strings.{equal}
use Rattle.text_operators.specs.Operators.{weakest}
use Rattle.text_tokens.specs.Tokens.{skip, next, slice, after_token, token}
use Rattle.text_tokens.proofs.Tokens.{square_open_lem, square_close_lem, word, word_end, after_word, token_first, token_after, sign_after, sign_token}
use Rattle.text_tokens.specs.Signs.{square_open, square_close, memory_token}
use Rattle.text_bit_parts.specs.References.{reference_at}
use Rattle.text_bit_parts.proofs.Onward.{word_of_letter}
use Rattle.text_bit_parts.proofs.Refers.{whole_referred, part_referred, refers_read}
use Rattle.text_bit_parts.specs.declared.Reference.{Reference}
use Rattle.text_bit_parts.specs.declared.Reference.TheVariants.{Whole, Part}
use Rattle.text_code.specs.Tree.{Expr, pieces, most_pieces, Destination}
use Rattle.text_code.specs.Readings.{Reading, read, outside, DestinationReading, leads, astray}
use Rattle.text_grammar.specs.Says.{Says}
use Rattle.text_grammar.specs.Grammar.{level, fuel}
use Rattle.text_grammar.specs.Reaches.{Reaches, nothing}
use Rattle.text_grammar.proofs.Said.{read_said, other_word, memory_itself}
use Rattle.text_grammar.proofs.Complete.{says_read, one_tree, end_weak}
use Rattle.text_grammar.proofs.Firsts.{is_word_lem, is_no_word, square_weak, memory_letter, memory_word, word_memory}
use Rattle.text_grammar.proofs.Reaches.{onward_to, letter_to, sign_to, ReferenceTo, reference_to, says_reaches}
use Rattle.text_expression.specs.Fields.{trimmed, IsExpression, IsDestination, names_register, names_part, names_word}
use Rattle.text_expression.specs.Expression.{whole, expression, of_name, of_address, memory_at, destination}
use Rattle.text_expression.proofs.WholeFields.{trims, all_of_it}
use Rattle.text_expression.proofs.Destinations.{to_register_lem, to_part_lem, is_address, opens}

-- both tests hold
both : {a b : Bool} → a ≡ true → b ≡ true → a && b ≡ true
both {a} {b} e f = ap (λ (x : Bool). x && b) e ∙ f

-- nothing was read
abbrev Outside : Reading → Type 0
Outside (read t p) = ⊥
Outside outside = Unit {0}

abbrev Astray : DestinationReading → Type 0
Astray (leads d) = ⊥
Astray astray = Unit {0}

module _ (rs : List Named) (s : List ℕ) where
  -- what was read is the field's, which ends with it
  abbrev Expression : Reading → Type 0
  Expression (read t p) = IsExpression rs s t × (p ≡ length s)
  Expression outside = Unit {0}

  whole_said : trimmed s ≡ true → (x : Reading) → level (fuel s) rs s 0 weakest 0 ≡ x → Expression (whole s x)
  unfolding whole
  whole_said e (read t p) h =
      by_case Expression (eqb p (length s) && leb (pieces t) most_pieces)
      (λ u.
      let ends : p ≡ length s = eqb-true p (length s) (and_left (eqb p (length s)) (leb (pieces t) most_pieces) u) in (
        record {
          trim = e;
          says = subst (λ (q : ℕ). Says rs s 0 weakest 0 q t) ends (read_said rs s (fuel s) 0 weakest 0 p t h);
          few = leb-true (pieces t) most_pieces (and_right (eqb p (length s)) (leb (pieces t) most_pieces) u);
        },
        ends,
      ))
      (λ u. tt)
  whole_said e outside h = tt

  all_said : Expression (expression rs s)
  unfolding expression
  all_said = by_case Expression (trimmed s) (λ e. whole_said e (level (fuel s) rs s 0 weakest 0) refl) (λ e. tt)

  -- a field's expression is read, and no other
  pub expression_said : (t : Expr) (p : ℕ) → expression rs s ≡ read t p → IsExpression rs s t × (p ≡ length s)
  expression_said t p e = subst Expression e all_said

  pub expression_read : (t : Expr) → IsExpression rs s t → expression rs s ≡ read t (length s)
  expression_read t h =
      trims rs s h.trim
      ∙ ap (whole s) (says_read rs s h.says (end_weak s))
      ∙ all_of_it s t (length s) (both (eq-eqb (length s) (length s) refl) (le-leb (pieces t) most_pieces h.few))

  -- what is outside the rules is no expression, with whatever tree
  pub no_expression : expression rs s ≡ outside → (t : Expr) → IsExpression rs s t → ⊥
  no_expression e t h = subst Outside (sym e ∙ expression_read t h) tt

  pub is_outside : ((t : Expr) → IsExpression rs s t → ⊥) → expression rs s ≡ outside
  is_outside h = none (expression rs s) all_said
    where
      none : (x : Reading) → Expression x → x ≡ outside
      none (read t p) g = absurd (h t g.0)
      none outside g = refl

  -- one tree for each field
  pub one_expression : (t u : Expr) → IsExpression rs s t → IsExpression rs s u → t ≡ u
  one_expression t u h g = one_tree rs s h.says (end_weak s) g.says (end_weak s)

  pub expression_tokens : (t : Expr) → IsExpression rs s t → Reaches s 0 (length s)
  expression_tokens t h = says_reaches rs s h.says (omega arith)

  -- the first token stands at the start
  at_start : trimmed s ≡ true → skip s 0 ≡ 0
  at_start e =
      by_test (ltb 0 (length s))
      (λ t. stops class.Space s 0 (ltb-true 0 (length s) t) (no_space (eqb (get_or s 0 0) (byte_of " ")) (and_left (not (eqb (get_or s 0 0) (byte_of " "))) (not (eqb (get_or s (length s - 1) 0) (byte_of " "))) e)))
      (λ t. at_end class.Space s 0 (ltb-false 0 (length s) t))
    where
      no_space : (b : Bool) → not b ≡ true → b ≡ false
      no_space true e = sym e
      no_space false e = refl

  begins : trimmed s ≡ true → is_word (get_or s 0 0) ≡ true → is_word (next s 0) ≡ true
  begins e i = ap (λ (k : ℕ). is_word (get_or s k 0)) (at_start e) ∙ i

  -- destinations
  abbrev Leads : DestinationReading → Type 0
  Leads (leads d) = IsDestination rs s d
  Leads astray = Unit {0}

  name_said : trimmed s ≡ true → (token s 0 ≡ ascii "M" → ⊥) → (x : Option Reference) → reference_at rs s 0 ≡ x → Leads (of_name s x)
  unfolding of_name
  name_said e n (Some (Whole r w p)) h =
      by_case Leads (eqb p (length s)) (λ t. names_register e n (whole_referred rs s 0 r w (length s) (h ∙ ap (λ (q : ℕ). Some (Whole r w q)) (eqb-true p (length s) t)))) (λ t. tt)
  name_said e n (Some (Part r w a b p)) h =
      by_case Leads (eqb p (length s)) (λ t. names_part e n (part_referred rs s 0 r w a b (length s) (h ∙ ap (λ (q : ℕ). Some (Part r w a b q)) (eqb-true p (length s) t)))) (λ t. tt)
  name_said e n None h = tt

  abbrev inner : ℕ
  inner = skip s (word_end s 0) + 1

  -- behind an M and its bracket
  after_memory : token s 0 ≡ ascii "M" → after_token s 0 ≡ word_end s 0
  after_memory m = after_word s 0 (word_of_letter (next s 0) (memory_letter s 0 m))

  inner_is : token s 0 ≡ ascii "M" → token s (after_token s 0) ≡ ascii "[" → after_token s (after_token s 0) ≡ inner
  inner_is m o = token_after s (after_token s 0) square_open square_open_lem o ∙ ap (λ (i : ℕ). skip s i + 1) (after_memory m)

  address_said : trimmed s ≡ true → token s 0 ≡ ascii "M" → token s (after_token s 0) ≡ ascii "[" → (x : Reading) → level (fuel s) rs s 0 weakest inner ≡ x
      → Leads (of_address s x)
  unfolding of_address
  address_said e m o (read t q) h =
      let shut = eqb (next s q) square_close in
      let last = eqb (skip s q + 1) (length s) in
      let few = leb (pieces t) most_pieces in
      by_case Leads (shut && last && few)
      (λ u.
      let v : shut && last ≡ true = and_left (shut && last) few u in
      let c = eqb-true (next s q) square_close (and_left shut last v) in
      names_word e m o (subst (λ (i : ℕ). Says rs s 0 weakest i q t) (sym (inner_is m o)) (read_said rs s (fuel s) 0 weakest inner q t h))
      (sign_token s q square_close square_close_lem c) (sign_after s q square_close square_close_lem c ∙ eqb-true (skip s q + 1) (length s) (and_right shut last v))
      (leb-true (pieces t) most_pieces (and_right (shut && last) few u)))
      (λ u. tt)
  address_said e m o outside h = tt

  memory_said : trimmed s ≡ true → token s 0 ≡ ascii "M" → Leads (memory_at rs s (word_end s 0))
  unfolding memory_at
  memory_said e m =
      by_case Leads (eqb (next s (word_end s 0)) square_open)
      (λ t. address_said e m (sign_token s (after_token s 0) square_open square_open_lem (ap (next s) (after_memory m) ∙ eqb-true (next s (word_end s 0)) square_open t)) (level (fuel s) rs s 0 weakest inner) refl)
      (λ t. tt)

  -- the word at the start, as the definition has it
  abbrev first : List ℕ
  first = slice s 0 (run_end class.Word s 0)

  word_is : trimmed s ≡ true → word s 0 ≡ first
  word_is e = ap (λ (i : ℕ). slice s i (run_end class.Word s i)) (at_start e)

  end_is : trimmed s ≡ true → word_end s 0 ≡ run_end class.Word s 0
  end_is e = ap (run_end class.Word s) (at_start e)

  all_leads : Leads (destination rs s)
  unfolding destination
  all_leads =
      by_case Leads (trimmed s)
      (λ e.
      by_case Leads (same first memory_token)
      (λ t. subst (λ (i : ℕ). Leads (memory_at rs s i)) (end_is e) (memory_said e (word_memory s 0 (word_is e ∙ equal first memory_token t))))
      (λ t. name_said e (λ m. other_word first memory_token memory_itself t (sym (word_is e) ∙ memory_word s 0 m)) (reference_at rs s 0) refl))
      (λ e. tt)

  by_name : trimmed s ≡ true → (token s 0 ≡ ascii "M" → ⊥) → destination rs s ≡ of_name s (reference_at rs s 0)
  unfolding destination
  by_name e n = rw (e, is_no_word first memory_token (λ m. n (word_memory s 0 (word_is e ∙ m))), destination)

  by_memory : trimmed s ≡ true → token s 0 ≡ ascii "M" → destination rs s ≡ memory_at rs s (run_end class.Word s 0)
  unfolding destination
  by_memory e m = rw (e, is_word_lem first memory_token memory_itself (sym (word_is e) ∙ memory_word s 0 m), destination)

  -- a field's destination is read, and no other
  pub destination_said : (d : Destination) → destination rs s ≡ leads d → IsDestination rs s d
  destination_said d e = subst Leads e all_leads

  pub destination_read : (d : Destination) → IsDestination rs s d → destination rs s ≡ leads d
  destination_read d (names_register {r = r} {w = w} e n h) = by_name e n ∙ ap (of_name s) (refers_read rs s 0 h) ∙ to_register_lem s r w (length s) refl
  destination_read d (names_part {r = r} {w = w} {a = a} {b = b} e n h) = by_name e n ∙ ap (of_name s) (refers_read rs s 0 h) ∙ to_part_lem s r w (length s) a b refl
  destination_read d (names_word {q = q} {t = t} e m o h c l f) =
      let x : next s (word_end s 0) ≡ square_open = ap (next s) (sym (after_memory m)) ∙ token_first s (after_token s 0) square_open [] o in
      by_memory e m
      ∙ ap (memory_at rs s) (sym (end_is e))
      ∙ opens rs s (word_end s 0) (skip s (word_end s 0)) (next s (word_end s 0)) refl refl x
      ∙ ap (of_address s) (ap (level (fuel s) rs s 0 weakest) (sym (inner_is m o)) ∙ says_read rs s h (square_weak s q c))
      ∙ is_address s t q (both (both (eq-eqb (next s q) square_close (token_first s q square_close [] c)) (eq-eqb (skip s q + 1) (length s) (sym (token_after s q square_close square_close_lem c) ∙ l))) (le-leb (pieces t) most_pieces f))

  -- what leads nowhere is no destination
  pub no_destination : destination rs s ≡ astray → (d : Destination) → IsDestination rs s d → ⊥
  no_destination e d h = subst Astray (sym e ∙ destination_read d h) tt

  pub is_astray : ((d : Destination) → IsDestination rs s d → ⊥) → destination rs s ≡ astray
  is_astray h = none (destination rs s) all_leads
    where
      none : (x : DestinationReading) → Leads x → x ≡ astray
      none (leads d) g = absurd (h d g)
      none astray g = refl

  -- one destination for each field
  pub one_destination : (d e : Destination) → IsDestination rs s d → IsDestination rs s e → d ≡ e
  one_destination d e h g = ap led (sym (destination_read d h) ∙ destination_read e g)
    where
      led : DestinationReading → Destination
      led (leads x) = x
      led astray = d

  -- a destination that begins with a letter, a digit or a dot has whole tokens only
  pub destination_tokens : (d : Destination) → is_word (get_or s 0 0) ≡ true → IsDestination rs s d → Reaches s 0 (length s)
  destination_tokens d i (names_register e n h) = subst (ReferenceTo s 0) (ap (reference_at rs s) (at_start e) ∙ refers_read rs s 0 h) (reference_to s 0 rs 0 nothing (begins e i))
  destination_tokens d i (names_part e n h) = subst (ReferenceTo s 0) (ap (reference_at rs s) (at_start e) ∙ refers_read rs s 0 h) (reference_to s 0 rs 0 nothing (begins e i))
  destination_tokens d i (names_word {q = q} e m o h c l f) =
      subst (Reaches s 0) l
      (sign_to s 0 q square_close square_close_lem
      (onward_to s (sign_to s 0 (after_token s 0) square_open square_open_lem (letter_to s 0 0 nothing (memory_letter s 0 m)) o) (says_reaches rs s h (omega arith))) c)
