-- The reader's definition of references is what the rules say: it reads a name or a bit part exactly where one stands.
-- Assumes nothing.
use mathlib.Core.Path.{◌≡◌, refl, sym, subst, ap, ◌∙◌}
use mathlib.Core.Bool.{false, ◌&&◌}
use mathlib.Core.List.{List, []}
use Prim.Native.Nat.{ℕ, ◌+◌, ◌≤◌, ◌<◌}
use lib.Dec.{eqb, leb, ltb}
use lib.ListN.{length}
use borrow.Author.Tests.{lt-ltb, ltb-true, le-leb, leb-true, eq-eqb, eqb-true, ne_eqb, eqb-false}
use Rattle.std.specs.Prelude.{Option, Some, None}
use Rattle.laws.proofs.Tests.{by_case}
use Rattle.laws.proofs.Joined.{and_left, and_right}
use Rattle.characters.specs.Ascii.{ascii}
use Rattle.characters.specs.Characters.{run_end}
use Rattle.characters.specs.Named.{Named}
use Rattle.characters.specs.declared.Class.TheVariants.{Word}
use Rattle.text_constants.specs.Constants.{decimal_at, plain}
use Rattle.text_constants.specs.declared.Number.{Number}
use Rattle.text_tokens.specs.Tokens.{skip, next, after_token, token}
use Rattle.text_tokens.proofs.Tokens.{Sign, angle_open_lem, angle_close_lem, colon_sign, token_first, sign_after, sign_token}
use Rattle.text_tokens.specs.Signs.{angle_open, angle_close, colon}
use Rattle.text_bit_parts.specs.declared.Span.{Span}
use Rattle.text_bit_parts.specs.declared.Reference.{Reference}
use Rattle.text_bit_parts.specs.declared.Reference.TheVariants.{Whole, Part}
use Rattle.text_bit_parts.specs.Refers.{register_of, width_in, Spans, one_bit, two_bits, Refers, to_register_lem, to_bits}
use Rattle.text_bit_parts.specs.References.{second_bit, first_bit, span_at, part_of, register_at, reference_at, bits}

-- bit numbers that were read stand there
module _ (s : List ℕ) (at : ℕ) where
  abbrev Spanned : Option Span → Type 0
  Spanned (Some n) = Spans s at n.first n.last n.place
  Spanned None = Unit {0}

  -- a decimal behind a sign
  behind : (q b : ℕ) → Sign b → next s q ≡ b → decimal_at s (skip s (after_token s q)) ≡ decimal_at s (skip s (skip s q + 1))
  behind q b h e = ap (λ (i : ℕ). decimal_at s (skip s i)) (sign_after s q b h e)

  module _ (opens : next s at ≡ angle_open) where
    opened : token s at ≡ ascii "<"
    opened = sign_token s at angle_open angle_open_lem opens

    second_said : (a q : ℕ) → decimal_at s (skip s (skip s at + 1)) ≡ plain a q → next s q ≡ colon → (n : Option Number) → decimal_at s (skip s (skip s q + 1)) ≡ n
        → Spanned (second_bit s a n)
    unfolding second_bit
    second_said a q e c (Some d) h =
        by_case Spanned (eqb (next s d.place) angle_close)
        (λ t.
        let x = eqb-true (next s d.place) angle_close t in
        subst (Spans s at a d.value) (sign_after s d.place angle_close angle_close_lem x)
        (two_bits opened (behind at angle_open angle_open_lem opens ∙ e) (sign_token s q colon colon_sign c) (behind q colon colon_sign c ∙ h) (sign_token s d.place angle_close angle_close_lem x)))
        (λ t. tt)
    second_said a q e c None h = tt

    first_said : (n : Option Number) → decimal_at s (skip s (skip s at + 1)) ≡ n → Spanned (first_bit s n)
    unfolding first_bit
    first_said (Some d) e =
        by_case Spanned (eqb (next s d.place) angle_close)
        (λ t.
        let x = eqb-true (next s d.place) angle_close t in
        subst (Spans s at d.value d.value) (sign_after s d.place angle_close angle_close_lem x) (one_bit opened (behind at angle_open angle_open_lem opens ∙ e) (sign_token s d.place angle_close angle_close_lem x)))
        (λ t.
        by_case Spanned (eqb (next s d.place) colon)
        (λ u. second_said d.value d.place e (eqb-true (next s d.place) colon u) (decimal_at s (skip s (skip s d.place + 1))) refl)
        (λ u. tt))
    first_said None e = tt

  -- and those that stand there are read
  bits_open : {a b p : ℕ} → Spans s at a b p → next s at ≡ angle_open
  bits_open (one_bit o e c) = token_first s at angle_open [] o
  bits_open (two_bits o e c h d) = token_first s at angle_open [] o

  first_is : (a q : ℕ) → next s q ≡ angle_close → first_bit s (plain a q) ≡ bits a a (skip s q + 1)
  unfolding first_bit
  first_is a q c = rw (eq-eqb (next s q) angle_close c, first_bit)

  colon_is : (q : ℕ) → next s q ≡ colon → eqb (next s q) angle_close ≡ false
  colon_is q e = ap (λ (b : ℕ). eqb b angle_close) e

  second_is : (a q : ℕ) → next s q ≡ colon → first_bit s (plain a q) ≡ second_bit s a (decimal_at s (skip s (skip s q + 1)))
  unfolding first_bit
  second_is a q c = rw (colon_is q c, eq-eqb (next s q) colon c, first_bit)

  last_is : (a b p : ℕ) → next s p ≡ angle_close → second_bit s a (plain b p) ≡ bits a b (skip s p + 1)
  unfolding second_bit
  last_is a b p c = rw (eq-eqb (next s p) angle_close c, second_bit)

  span_read : {a b p : ℕ} → Spans s at a b p → span_at s (skip s at + 1) ≡ bits a b p
  unfolding span_at
  span_read (one_bit {a = a} {q = q} o e c) =
      let x = token_first s q angle_close [] c in
      ap (first_bit s) (sym (behind at angle_open angle_open_lem (token_first s at angle_open [] o)) ∙ e)
      ∙ first_is a q x
      ∙ ap (λ (i : ℕ). bits a a i) (sym (sign_after s q angle_close angle_close_lem x))
  span_read (two_bits {a = a} {b = b} {q = q} {p = p} o e c h d) =
      let x = token_first s q colon [] c in
      let y = token_first s p angle_close [] d in
      ap (first_bit s) (sym (behind at angle_open angle_open_lem (token_first s at angle_open [] o)) ∙ e)
      ∙ second_is a q x
      ∙ ap (second_bit s a) (sym (behind q colon colon_sign x) ∙ h)
      ∙ last_is a b p y
      ∙ ap (λ (i : ℕ). bits a b i) (sym (sign_after s p angle_close angle_close_lem y))

module _ (rs : List Named) (s : List ℕ) (at : ℕ) where
  abbrev r : ℕ
  r = register_of rs s at

  abbrev w : ℕ
  w = width_in rs r

  abbrev end : ℕ
  end = run_end Word s at

  abbrev Referred : Option Reference → Type 0
  Referred (Some (Whole a b c)) = Refers rs s at (Whole a b c)
  Referred (Some (Part a b c d e)) = Refers rs s at (Part a b c d e)
  Referred None = Unit {0}

  part_said : r < length rs → (n : Option Span) → Spanned s end n → Referred (part_of r w n)
  unfolding part_of
  part_said l (Some n) h =
      by_case Referred (leb n.first n.last && ltb n.last w)
      (λ t. to_bits l h (leb-true n.first n.last (and_left (leb n.first n.last) (ltb n.last w) t)) (ltb-true n.last w (and_right (leb n.first n.last) (ltb n.last w) t)))
      (λ t. tt)
  part_said l None h = tt

  all_referred : Referred (reference_at rs s at)
  unfolding reference_at register_at span_at
  all_referred =
      by_case Referred (ltb r (length rs))
      (λ t.
      let l = ltb-true r (length rs) t in
      by_case Referred (eqb (next s end) angle_open)
      (λ u.
      part_said l (first_bit s (decimal_at s (skip s (skip s end + 1))))
      (first_said s end (eqb-true (next s end) angle_open u) (decimal_at s (skip s (skip s end + 1))) refl))
      (λ u. to_register_lem l (λ o. eqb-false (next s end) angle_open u (token_first s end angle_open [] o))))
      (λ t. tt)

  pub whole_referred : (a b p : ℕ) → reference_at rs s at ≡ Some (Whole a b p) → Refers rs s at (Whole a b p)
  whole_referred a b p e = subst Referred e all_referred

  pub part_referred : (a b c d p : ℕ) → reference_at rs s at ≡ Some (Part a b c d p) → Refers rs s at (Part a b c d p)
  part_referred a b c d p e = subst Referred e all_referred

  listed : r < length rs → reference_at rs s at ≡ register_at s r w end
  unfolding reference_at
  listed l = rw (lt-ltb r (length rs) l, reference_at)

  bare : (next s end ≡ angle_open → ⊥) → register_at s r w end ≡ Some (Whole r w end)
  unfolding register_at
  bare n = rw (ne_eqb (next s end) angle_open n, register_at)

  parted : next s end ≡ angle_open → register_at s r w end ≡ part_of r w (span_at s (skip s end + 1))
  unfolding register_at
  parted o = rw (eq-eqb (next s end) angle_open o, register_at)

  ordered : (a b p : ℕ) → a ≤ b → b < w → part_of r w (bits a b p) ≡ Some (Part r w a b p)
  unfolding part_of
  ordered a b p i l = rw (le-leb a b i, lt-ltb b w l, part_of)

  pub refers_read : {x : Reference} → Refers rs s at x → reference_at rs s at ≡ Some x
  refers_read (to_register_lem l n) = listed l ∙ bare (λ o. n (sign_token s end angle_open angle_open_lem o))
  refers_read (to_bits {a = a} {b = b} {p = p} l h i j) =
      listed l ∙ parted (bits_open s end h) ∙ ap (part_of r w) (span_read s end h) ∙ ordered a b p i j
