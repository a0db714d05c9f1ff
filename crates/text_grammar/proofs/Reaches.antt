-- What is said stops at a token's end, and there are only whole tokens in it, with spaces between them.
-- Assumes nothing.
use mathlib.Core.Path.{◌≡◌, refl, subst, ◌∙◌}
use mathlib.Core.Bool.{true, ◌&&◌}
use mathlib.Core.List.{List, [], ◌∷◌}
use Prim.Native.Nat.{ℕ, ◌+◌, ◌≤◌, ◌<◌}
use native.Mathlib.Omega.{arith}
use lib.Dec.{eqb, leb, ltb}
use lib.ListN.{length, drop}
use borrow.Author.Tests.{eqb-true}
use Rattle.std.specs.Prelude.{Option, Some, None}
use Rattle.laws.proofs.Tests.{by_case}
use Rattle.laws.proofs.Lists.{present}
use Rattle.characters.specs.Characters.{is_letter, is_word}
use Rattle.characters.specs.Named.{Named, find}
use Rattle.text_constants.specs.Constants.{binary_mark, octal_mark, decimal_at}
use Rattle.text_constants.specs.Numerals.{IsDecimal, IsConstant, binary, octal, decimal}
use Rattle.text_constants.specs.declared.Number.{Number}
use Rattle.text_constants.proofs.Numerals.{mark_stands, marked_end, word_of_digit, digit_stands, decimal_end, decimal_said, constant_said}
use Rattle.text_operators.specs.Operators.{rotations}
use Rattle.text_tokens.specs.Tokens.{skip, next, slice, token_end, after_token}
use Rattle.text_tokens.specs.Signs.{round_open, round_close, square_open, square_close, angle_open, angle_close, colon}
use Rattle.text_tokens.proofs.Tokens.{Sign, round_open_lem, round_close_lem, square_open_lem, square_close_lem, angle_open_lem, angle_close_lem, colon_sign, word_end, word_end_lem, binary_end, octal_end, token_first, sign_after}
use Rattle.text_bit_parts.specs.References.{second_bit, first_bit, span_at, part_of, width_in, register_at, reference_at}
use Rattle.text_bit_parts.specs.declared.Span.{Span}
use Rattle.text_bit_parts.specs.declared.Reference.{Reference}
use Rattle.text_bit_parts.specs.declared.Reference.TheVariants.{Whole, Part}
use Rattle.text_bit_parts.proofs.Refers.{refers_read}
use Rattle.text_bit_parts.proofs.Onward.{word_of_letter, word_past, operator_inside}
use Rattle.text_code.specs.Tree.{Expr}
use Rattle.text_grammar.specs.Says.{Says, stronger, operates, rotates, complements, encloses, fetches, is_register, is_part, is_constant}
use Rattle.text_tokens.specs.Tokens as tokens
use Rattle.text_grammar.specs.Reaches.{Reaches, nothing, token}
use Rattle.text_grammar.proofs.Firsts.{not_letter, memory_letter}

module _ (s : List ℕ) where
  pub onward_to : {at q p : ℕ} → Reaches s at q → Reaches s q p → Reaches s at p
  onward_to h nothing = h
  onward_to h (token g l) = token (onward_to h g) l

  module _ (at : ℕ) where
    -- one token more: a word, and a sign
    one_more : {q p : ℕ} → Reaches s at q → skip s q < length s → token_end s (skip s q) ≡ p → Reaches s at p
    one_more h l e = subst (Reaches s at) e (token h l)

    pub word_to : (q : ℕ) → Reaches s at q → is_word (next s q) ≡ true → Reaches s at (word_end s q)
    word_to q h e =
        let past = word_past s (skip s q) e in
        one_more h (omega (arith, past)) (word_end_lem s (skip s q) e)

    pub letter_to : (q : ℕ) → Reaches s at q → is_letter (next s q) ≡ true → Reaches s at (after_token s q)
    letter_to q h e =
        let past = word_past s (skip s q) (word_of_letter (next s q) e) in
        token h (omega (arith, past))

    pub sign_to : (q b : ℕ) → Sign b → Reaches s at q → tokens.token s q ≡ b ∷ [] → Reaches s at (after_token s q)
    sign_to q b g h e = token h (present s (skip s q) b (token_first s q b [] e) g.some)

    shown : (q b : ℕ) → Sign b → Reaches s at q → eqb (next s q) b ≡ true → Reaches s at (skip s q + 1)
    shown q b g h t =
        let e = eqb-true (next s q) b t in
        one_more h (present s (skip s q) b e g.some) (sign_after s q b g e)

    -- a decimal
    abbrev NumberTo : Option Number → Type 0
    NumberTo (Some d) = Reaches s at d.place
    NumberTo None = Unit {0}

    is_decimal_to : (q : ℕ) → Reaches s at q → {v p : ℕ} → IsDecimal (drop (skip s q) s) (skip s q) v p → Reaches s at p
    is_decimal_to q h d = subst (Reaches s at) (decimal_end s (skip s q) d) (word_to q h (word_of_digit (next s q) (digit_stands s (skip s q) d)))

    decimal_to : (q : ℕ) → Reaches s at q → NumberTo (decimal_at s (skip s q))
    decimal_to q h = number_to (decimal_at s (skip s q)) refl
      where
        number_to : (n : Option Number) → decimal_at s (skip s q) ≡ n → NumberTo n
        number_to (Some d) e = is_decimal_to q h (decimal_said s (skip s q) e)
        number_to None e = tt

    -- a constant
    constant_to : (q : ℕ) → Reaches s at q → {v w p : ℕ} → IsConstant (drop (skip s q) s) (skip s q) v w p → Reaches s at p
    constant_to q h (binary d) =
        let i = skip s q in
        let e = mark_stands s i d in
        one_more h (present s i binary_mark e (omega arith)) (binary_end s i e ∙ marked_end s i d)
    constant_to q h (octal d) =
        let i = skip s q in
        let e = mark_stands s i d in
        one_more h (present s i octal_mark e (omega arith)) (octal_end s i e ∙ marked_end s i d)
    constant_to q h (decimal d g) = is_decimal_to q h d

    -- a name, or a bit part
    abbrev SpanTo : Option Span → Type 0
    SpanTo (Some n) = Reaches s at n.place
    SpanTo None = Unit {0}

    abbrev pub ReferenceTo : Option Reference → Type 0
    ReferenceTo (Some (Whole r w p)) = Reaches s at p
    ReferenceTo (Some (Part r w a b p)) = Reaches s at p
    ReferenceTo None = Unit {0}

    second_to : (a : ℕ) (n : Option Number) → NumberTo n → SpanTo (second_bit s a n)
    unfolding second_bit
    second_to a (Some d) h = by_case SpanTo (eqb (next s d.place) angle_close) (λ t. shown d.place angle_close angle_close_lem h t) (λ t. tt)
    second_to a None h = tt

    first_to : (n : Option Number) → NumberTo n → SpanTo (first_bit s n)
    unfolding first_bit
    first_to (Some d) h =
        by_case SpanTo (eqb (next s d.place) angle_close)
        (λ t. shown d.place angle_close angle_close_lem h t)
        (λ t.
        by_case SpanTo (eqb (next s d.place) colon)
        (λ u. second_to d.value (decimal_at s (skip s (skip s d.place + 1))) (decimal_to (skip s d.place + 1) (shown d.place colon colon_sign h u)))
        (λ u. tt))
    first_to None h = tt

    part_to : (r w : ℕ) (n : Option Span) → SpanTo n → ReferenceTo (part_of r w n)
    unfolding part_of
    part_to r w (Some n) h = by_case ReferenceTo (leb n.first n.last && ltb n.last w) (λ t. h) (λ t. tt)
    part_to r w None h = tt

    pub reference_to : (rs : List Named) (q : ℕ) → Reaches s at q → is_word (next s q) ≡ true → ReferenceTo (reference_at rs s (skip s q))
    unfolding reference_at register_at span_at
    reference_to rs q h w =
        let end = word_end s q in
        let r = find (slice s (skip s q) end) rs in
        let e = word_to q h w in
        by_case ReferenceTo (ltb r (length rs))
        (λ t.
        by_case ReferenceTo (eqb (next s end) angle_open)
        (λ u.
        part_to r (width_in rs r) (first_bit s (decimal_at s (skip s (skip s end + 1))))
        (first_to (decimal_at s (skip s (skip s end + 1))) (decimal_to (skip s end + 1) (shown end angle_open angle_open_lem e u))))
        (λ u. e))
        (λ t. tt)

module _ (rs : List Named) (s : List ℕ) where
  pub says_reaches : {d k at p : ℕ} {t : Expr} → Says rs s d k at p t → 1 ≤ k → Reaches s at p
  says_reaches (stronger h) o = says_reaches h (omega arith)
  says_reaches (operates {k = k} {at = at} {q = q} h e n g w) o =
      onward_to s (token (says_reaches h o) (operator_inside s q k e o)) (says_reaches g (omega arith))
  says_reaches (rotates {at = at} {q = q} h e g l) o =
      subst (NumberTo s at) g (decimal_to s at (after_token s q) (token (says_reaches h o) (operator_inside s q rotations e o)))
  says_reaches (complements {at = at} e l h) o =
      onward_to s (letter_to s at at nothing (not_letter s at e)) (says_reaches h o)
  says_reaches (encloses {at = at} {q = q} e l h c) o =
      sign_to s at q round_close round_close_lem (onward_to s (sign_to s at at round_open round_open_lem nothing e) (says_reaches h (omega arith))) c
  says_reaches (fetches {at = at} {q = q} w e l h c) o =
      let m = letter_to s at at nothing (memory_letter s at w) in
      sign_to s at q square_close square_close_lem (onward_to s (sign_to s at (after_token s at) square_open square_open_lem m e) (says_reaches h (omega arith))) c
  says_reaches (is_register {at = at} n g w) o = subst (ReferenceTo s at) (refers_read rs s (skip s at) g) (reference_to s at rs at nothing (word_of_letter (next s at) n.letter))
  says_reaches (is_part {at = at} n g w) o = subst (ReferenceTo s at) (refers_read rs s (skip s at) g) (reference_to s at rs at nothing (word_of_letter (next s at) n.letter))
  says_reaches (is_constant {at = at} g w) o = constant_to s at at nothing (constant_said s (skip s at) g)
