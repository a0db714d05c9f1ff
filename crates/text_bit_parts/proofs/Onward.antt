-- Whatever is read ends after its start and within the field; a register that is read is one of the list, and bit numbers are below its width.
-- Assumes nothing.
use mathlib.Core.Path.{◌≡◌, refl, sym, ap, subst, ◌∙◌}
use mathlib.Core.Bool.{true, false≢true, ◌&&◌}
use mathlib.Core.List.{List}
use Prim.Native.Nat.{ℕ, ◌+◌, ◌-◌, ◌≤◌, ◌<◌}
use native.Mathlib.Omega.{arith}
use lib.Dec.{eqb, leb, ltb}
use lib.ListN.{length, get_or, drop_of_length-le, get_or-eq_default}
use lib.Seq.{take-nil}
use borrow.Author.Tests.{ltb-true, ltb-false, leb-true, eqb-true}
use Rattle.std.specs.Prelude.{Option, Some, None}
use Rattle.characters.specs.Characters.{is_letter, is_word, run_end, same}
use Rattle.text_constants.specs.Constants.{decimal_at}
use Rattle.characters.specs.Named.{Named, find}
use Rattle.characters.specs.declared.Class.TheVariants.{Space, Word}
use Rattle.text_constants.specs.declared.Number.{Number}
use Rattle.characters.proofs.Runs.{onward, within, run_onward}
use Rattle.laws.proofs.Joined.{and_left, and_right}
use Rattle.laws.proofs.Tests.{by_test, by_case}
use Rattle.text_constants.proofs.Places.{Past, NumberPast, decimal_past}
use Rattle.text_bit_parts.specs.declared.Span.{Span}
use Rattle.text_bit_parts.specs.declared.Reference.{Reference}
use Rattle.text_bit_parts.specs.declared.Reference.TheVariants.{Whole, Part}
use Rattle.text_operators.specs.Operators.{table, entry_in}
use Rattle.text_operators.proofs.Rows.{row_small}
use Rattle.text_operators.specs.OperatorNames.{operator_names, find_in, operator_row}
use Rattle.text_tokens.specs.Tokens.{skip, next, slice, token_end, operator_at, after_token}
use Rattle.text_tokens.specs.Signs.{angle_open, angle_close, colon}
use Rattle.text_bit_parts.specs.References.{second_bit, first_bit, span_at, part_of, width_in, register_at, reference_at}
use Rattle.laws.proofs.Lists.{present}
use Rattle.text_tokens.proofs.Tokens.{token_inside}

-- after its start, and within the field
abbrev SpanPast : List ℕ → ℕ → Option Span → Type 0
SpanPast s at (Some n) = Past s at n.place
SpanPast s at None = Unit {0}

abbrev pub ReferencePast : List ℕ → ℕ → Option Reference → Type 0
ReferencePast s at (Some (Whole r w p)) = Past s at p
ReferencePast s at (Some (Part r w a b p)) = Past s at p
ReferencePast s at None = Unit {0}

-- words: a letter begins one, and it ends past its start
pub word_of_letter : (b : ℕ) → is_letter b ≡ true → is_word b ≡ true
word_of_letter b e = rw e

pub word_past : (s : List ℕ) (at : ℕ) → is_word (get_or s at 0) ≡ true → Past s at (run_end Word s at)
word_past s at e =
    by_test (ltb at (length s))
    (λ t.
    let h : at < length s = ltb-true at (length s) t in
    (run_onward Word s at h e, within Word s at (omega arith)))
    (λ t. absurd (false≢true (sym (ap is_word (get_or-eq_default s 0 (ltb-false at (length s) t))) ∙ e)))

pub letters_past : (s : List ℕ) (at r : ℕ) → is_letter (get_or s at 0) ≡ true → r ≡ run_end Word s at → Past s at r
letters_past s at r l e = subst (Past s at) (sym e) (word_past s at (word_of_letter (get_or s at 0) l))

-- bit numbers, one of which was read from z on: the `>` behind it, a second one, and a first one with what follows
module _ (s : List ℕ) (at z : ℕ) (h : at ≤ z) where
  bracket_past : (q : ℕ) → Past s z q → eqb (next s q) angle_close ≡ true → Past s at (skip s q + 1)
  bracket_past q o t = omega (arith, onward Space s q, present s (skip s q) angle_close (eqb-true (next s q) angle_close t) (omega arith))

  second_past : (a : ℕ) (n : Option Number) → NumberPast s z n → SpanPast s at (second_bit s a n)
  unfolding second_bit
  second_past a (Some d) o = by_case (SpanPast s at) (eqb (next s d.place) angle_close) (λ t. bracket_past d.place o t) (λ t. tt)
  second_past a None o = tt

first_past : (s : List ℕ) (at z : ℕ) → at ≤ z → (n : Option Number) → NumberPast s z n → SpanPast s at (first_bit s n)
unfolding first_bit
first_past s at z h (Some d) o =
    by_case (SpanPast s at) (eqb (next s d.place) angle_close)
    (λ t. bracket_past s at z h d.place o t)
    (λ t.
    by_case (SpanPast s at) (eqb (next s d.place) colon)
    (λ u.
    let y = skip s (skip s d.place + 1) in
    second_past s at y (omega (arith, onward Space s d.place, onward Space s (skip s d.place + 1))) d.value (decimal_at s y) (decimal_past s y refl))
    (λ u. tt))
first_past s at z h None o = tt

-- bit parts, by their bit numbers
part_past : (s : List ℕ) (at r w : ℕ) (n : Option Span) → SpanPast s at n → ReferencePast s at (part_of r w n)
unfolding part_of
part_past s at r w (Some n) h = by_case (ReferencePast s at) (leb n.first n.last && ltb n.last w) (λ t. h) (λ t. tt)
part_past s at r w None h = tt

-- a register of the list, with its width; and bit numbers in order, below it
abbrev Known : List Named → Option Reference → Type 0
Known rs (Some (Whole r w p)) = (r < length rs) × (w ≡ width_in rs r)
Known rs (Some (Part r w a b p)) = (r < length rs) × (w ≡ width_in rs r) × (a ≤ b) × (b < w)
Known rs None = Unit {0}

part_known : (rs : List Named) (r : ℕ) → r < length rs → (n : Option Span) → Known rs (part_of r (width_in rs r) n)
unfolding part_of
part_known rs r h (Some n) =
    let w = width_in rs r in
    by_case (Known rs) (leb n.first n.last && ltb n.last w)
    (λ t. (h, refl, leb-true n.first n.last (and_left (leb n.first n.last) (ltb n.last w) t), ltb-true n.last w (and_right (leb n.first n.last) (ltb n.last w) t)))
    (λ t. tt)
part_known rs r h None = tt

module _ (rs : List Named) (s : List ℕ) (at : ℕ) where
  abbrev named : ℕ
  named = find (slice s at (run_end Word s at)) rs

  abbrev end : ℕ
  end = run_end Word s at

  pub reference_past : {x : Option Reference} → is_word (get_or s at 0) ≡ true → reference_at rs s at ≡ x → ReferencePast s at x
  unfolding reference_at register_at span_at
  reference_past i e =
      let o : Past s at end = word_past s at i in
      let z = skip s (skip s end + 1) in
      subst (ReferencePast s at) e
      (by_case (ReferencePast s at) (ltb named (length rs))
      (λ t.
      by_case (ReferencePast s at) (eqb (next s end) angle_open)
      (λ u.
      part_past s at named (width_in rs named) (first_bit s (decimal_at s z))
      (first_past s at z (omega (arith, onward Space s end, onward Space s (skip s end + 1))) (decimal_at s z) (decimal_past s z refl)))
      (λ u. o))
      (λ t. tt))

  reference_known : Known rs (reference_at rs s at)
  unfolding reference_at register_at
  reference_known =
      by_case (Known rs) (ltb named (length rs))
      (λ t.
      let h = ltb-true named (length rs) t in
      by_case (Known rs) (eqb (next s end) angle_open) (λ u. part_known rs named h (span_at s (skip s end + 1))) (λ u. (h, refl)))
      (λ t. tt)

  pub whole_known : (r w p : ℕ) → reference_at rs s at ≡ Some (Whole r w p) → (r < length rs) × (w ≡ width_in rs r)
  whole_known r w p e = subst (Known rs) e reference_known

  pub bits_known : (r w a b p : ℕ) → reference_at rs s at ≡ Some (Part r w a b p) → (r < length rs) × (w ≡ width_in rs r) × (a ≤ b) × (b < w)
  bits_known r w a b p e = subst (Known rs) e reference_known

-- an operator stands in the table, and its token ends past its start
no_operator : (s : List ℕ) (at : ℕ) → length s ≤ skip s at → operator_at s at ≡ length operator_names
unfolding operator_at operator_row find_in same
no_operator s at h = rw (drop_of_length-le s h, take-nil (token_end s (skip s at) - skip s at))

module _ (s : List ℕ) (at k : ℕ) (e : (entry_in (operator_at s at)).strength ≡ k) (h : 0 < k) where
  in_table : operator_at s at < length table
  in_table = row_small (operator_at s at) k e h

  pub operator_inside : skip s at < length s
  operator_inside =
      by_test (ltb (skip s at) (length s))
      (λ t. ltb-true (skip s at) (length s) t)
      (λ t. absurd (omega (arith, in_table, no_operator s at (ltb-false (skip s at) (length s) t))))

  pub operator_past : (operator_at s at < length table) × Past s at (after_token s at)
  operator_past =
      let i = token_inside s (skip s at) operator_inside in
      (in_table, omega (arith, onward Space s at))
