-- What is read as a constant is one, and every one is read: the definition's reading at a start is what stands there, both ways, and it reads none where none stands.
-- Assumes nothing.
use mathlib.Core.Path.{◌≡◌, refl, sym, ap, subst, ◌∙◌}
use mathlib.Core.Bool.{Bool, true, false, not, ◌&&◌, ◌||◌}
use mathlib.Core.List.{List, [], ◌∷◌, ◌++◌}
use Prim.Native.Nat.{ℕ, suc, ◌+◌, ◌-◌, ◌*◌, ◌%◌, ◌^◌, ◌≤◌, ◌<◌}
use native.Mathlib.Nat.{add-zero, mul-le-mul_right, pow-le-pow_right}
use native.Mathlib.Numerals.{add-one}
use native.Mathlib.Omega.{arith}
use lib.Dec.{eqb, leb, ltb}
use lib.ListN.{length, get_or, take, drop, take-append-drop}
use lib.Seq.{drop-cons, get_or-drop, get_or-take}
use borrow.Author.Tests.{le-leb, leb-true, leb-false, eq-eqb, eqb-true, eqb-false, not-true}
use Rattle.std.specs.Prelude.{Option, Some, None}
use Rattle.laws.proofs.Tests.{by_test, by_case, not_so}
use Rattle.laws.proofs.Joined.{and_left, and_right, all_three, either}
use Rattle.laws.proofs.Lists.{present}
use Rattle.characters.specs.Ascii.{digit}
use Rattle.characters.specs.Characters.{is_digit, is_letter, belongs, run, run_end}
use Rattle.characters.specs.declared.Class.{Class}
use Rattle.characters.specs.declared.Class.TheVariants.{Word, Binary, Octal, Decimal}
use Rattle.characters.proofs.Runs.{run_onward}
use Rattle.text_constants.specs.declared.Number.{Number}
use Rattle.text_constants.specs.declared.Constant.{Constant}
use Rattle.text_constants.specs.Constants.{binary_mark, octal_mark, binary_digits, octal_digits, decimal_digits, largest, number_at, shortest, is_plain, decimal_at, marked_at, of_decimal, constant_at, plain, found}
use Rattle.text_constants.specs.Numerals.{digit_value, value_of, All, none, more, Ends, with_line, before, IsMarked, IsDecimal, IsConstant, binary, octal, decimal}
use Rattle.text_constants.proofs.Readings.{digits_between, marked_found, by_binary, by_octal, by_decimal}
use Rattle.text_constants.proofs.Taken.{run_is, run_all, run_ends, run_length, wider, first_is, others_are, binary_told, octal_told, decimal_told, value_is}
use Rattle.text_constants.proofs.Shortest.{shortest_least, one_shortest}

-- ---- digits behind a mark

-- what stands behind a mark, and where it ends
module _ {mark : ℕ} {k : Class} {size most v w p : ℕ} (s : List ℕ) (at : ℕ) (h : IsMarked mark k size most (drop at s) at v w p) where
  pub mark_stands : get_or s at 0 ≡ mark
  mark_stands = first_is s at mark (h.digits ++ h.rest) h.stands

  behind : drop (at + 1) s ≡ h.digits ++ h.rest
  behind = others_are s at mark (h.digits ++ h.rest) h.stands

  ends_at : run_end k s (at + 1) ≡ at + 1 + length h.digits
  unfolding run_end
  ends_at = ap (λ (j : ℕ). at + 1 + j) (ap (run k) behind ∙ run_is k h.digits h.rest h.all h.ends)

  pub marked_end : run_end k s (at + 1) ≡ p
  marked_end = ends_at ∙ sym h.after

module _ (mark : ℕ) (k : Class) (size most : ℕ) (told : (b : ℕ) → belongs k b ≡ true → b % 16 ≡ digit_value b) (s : List ℕ) (at : ℕ) where
  -- what holds of every one that stands there, and of none, holds of what is read
  marked_said : 0 < mark → get_or s at 0 ≡ mark → (P : Option Constant → Type 0)
      → ((v w p : ℕ) → IsMarked mark k size most (drop at s) at v w p → P (found v w p)) → P None → P (marked_at k (2 ^ size) size most s (at + 1))
  unfolding marked_at run_end
  marked_said i e P found missing =
      let t = drop (at + 1) s in
      let n = run k t in
      by_case P (ltb (at + 1) (at + 1 + n) && leb (at + 1 + n) (at + 1 + most))
      (λ u.
      let l = digits_between (at + 1) (at + 1 + n) most u in
      let many : at + 1 + n - (at + 1) ≡ length (take n t) = omega (arith, run_length k t) in
      found (number_at (2 ^ size) s (at + 1) (at + 1 + n - (at + 1)) 0) (size * (at + 1 + n - (at + 1))) (at + 1 + n)
      (record {
        digits = take n t;
        rest = drop n t;
        stands =
            drop-cons s at 0 (present s at mark e i)
            ∙ ap (λ (b : ℕ). b ∷ drop (suc at) s) e
            ∙ ap (λ (j : ℕ). mark ∷ drop j s) (sym (add-one at))
            ∙ ap (λ (l : List ℕ). mark ∷ l) (sym (take-append-drop n t));
        all = run_all k t;
        ends = run_ends k t;
        some = omega (arith, run_length k t);
        few = omega (arith, run_length k t);
        value =
            ap (λ (j : ℕ). number_at (2 ^ size) s (at + 1) j 0) many
            ∙ value_is k told (2 ^ size) s (take n t) (drop n t) (at + 1) (sym (take-append-drop n t)) (run_all k t);
        width = ap (λ (j : ℕ). size * j) many;
        after = omega (arith, run_length k t);
      }))
      (λ u. missing)

  marked_read : {v w p : ℕ} → IsMarked mark k size most (drop at s) at v w p → marked_at k (2 ^ size) size most s (at + 1) ≡ found v w p
  marked_read {v = v} {w = w} {p = p} h =
      let n = length h.digits in
      marked_found k (2 ^ size) size most s (at + 1) n (ends_at s at h) (omega (arith, h.some)) (omega (arith, h.few))
      ∙ ap (λ (x : ℕ). found x (size * n) (at + 1 + n)) (value_is k told (2 ^ size) s h.digits h.rest (at + 1) (behind s at h) h.all ∙ sym h.value)
      ∙ ap (λ (x : ℕ). found v x (at + 1 + n)) (sym h.width)
      ∙ ap (λ (x : ℕ). found v w x) (sym h.after)

-- ---- decimals

-- a digit is a byte of a word, so where a word ends its digits do
pub word_of_digit : (b : ℕ) → is_digit b ≡ true → belongs Word b ≡ true
word_of_digit b e = rw e (or_true (is_letter b))
  where
    or_true : (t : Bool) → t || true || eqb b 46 ≡ true
    or_true true = refl
    or_true false = refl

digits_end : (rest : List ℕ) → Ends Word rest → Ends Decimal rest
digits_end [] with_line = with_line
digits_end (b ∷ rest) (before e) =
    before (by_test (is_digit b) (λ t. not_so (belongs Word b) (word_of_digit b t) e) (λ t. t))

-- no leading zero, and a number up to 32767: at most five digits
few_digits : (ds : List ℕ) → All Decimal ds → (get_or ds 0 0 ≡ digit 0 → length ds ≡ 1) → value_of 10 ds ≤ largest → length ds ≤ decimal_digits
unfolding value_of
few_digits [] none plain small = omega arith
few_digits (b ∷ ds) (more e h) plain small =
    by_test (leb (length ds) 4)
    (λ t. omega (arith, leb-true (length ds) 4 t))
    (λ t.
    let long : 4 < length ds = leb-false (length ds) 4 t in
    let large : 10 ^ 5 ≤ 10 ^ length ds = pow-le-pow_right {n = 10} (omega arith) long in
    by_test (eqb b (digit 0))
    (λ u. absurd (omega (arith, plain (eqb-true b (digit 0) u))))
    (λ u.
    let first : 1 ≤ digit_value b = leads (leb-true 48 b (and_left (leb 48 b) (leb b 57) e)) (eqb-false b (digit 0) u) in
    absurd (omega (arith, mul-le-mul_right (10 ^ length ds) first))))
  where
    leads : 48 ≤ b → (b ≡ 48 → ⊥) → 1 ≤ digit_value b
    leads l n = omega arith

-- "without leading zeros", as the definition tests it
leading : (first at n : ℕ) → not (eqb first (digit 0)) || eqb (at + n) (at + 1) ≡ true → first ≡ digit 0 → n ≡ 1
leading first at n t e =
    either (not (eqb first (digit 0))) (eqb (at + n) (at + 1)) t
    (λ u. absurd (eqb-false first (digit 0) (not-true (eqb first (digit 0)) u) e))
    (λ u. omega (arith, eqb-true (at + n) (at + 1) u))

unleading : (first at n : ℕ) → (first ≡ digit 0 → n ≡ 1) → not (eqb first (digit 0)) || eqb (at + n) (at + 1) ≡ true
unleading first at n h =
    by_test (eqb first (digit 0))
    (λ t. rw (t, eq-eqb (at + n) (at + 1) (ap (λ (j : ℕ). at + j) (h (eqb-true first (digit 0) t)))))
    (λ t. rw t)

abbrev Is-unread : Option Number → Type 0
Is-unread (Some d) = ⊥
Is-unread None = Unit {0}

module _ (s : List ℕ) (at : ℕ) where
  abbrev onward : List ℕ
  onward = drop at s

  -- the run at a start, and the digits that it begins with
  abbrev n : ℕ
  n = run Word onward

  abbrev m : ℕ
  m = run Decimal onward

  first_onward : get_or onward 0 0 ≡ get_or s at 0
  first_onward = get_or-drop at s 0 0 ∙ ap (λ (i : ℕ). get_or s i 0) (add-zero at)

  -- the tests of the definition hold where a decimal stands
  module _ (t : is_digit (get_or s at 0) && is_plain (get_or s at 0) at (at + m) (at + n) ≡ true) (u : leb (number_at 10 s at n 0) largest ≡ true) where
    is_digit_lem : is_digit (get_or s at 0) ≡ true
    is_digit_lem = and_left (is_digit (get_or s at 0)) (is_plain (get_or s at 0) at (at + m) (at + n)) t

    tests : (eqb (at + m) (at + n) ≡ true) × (leb (at + n) (at + decimal_digits) ≡ true) × (not (eqb (get_or s at 0) (digit 0)) || eqb (at + n) (at + 1) ≡ true)
    tests =
        all_three (eqb (at + m) (at + n)) (leb (at + n) (at + decimal_digits)) (not (eqb (get_or s at 0) (digit 0)) || eqb (at + n) (at + 1))
        (and_right (is_digit (get_or s at 0)) (is_plain (get_or s at 0) at (at + m) (at + n)) t)

    same : m ≡ n
    same = omega (arith, eqb-true (at + m) (at + n) tests.0)

    all_digits : All Decimal (take n onward)
    all_digits = subst (λ (j : ℕ). All Decimal (take j onward)) same (run_all Decimal onward)

    begun : 1 ≤ n
    unfolding run_end
    begun =
        let high = leb-true 48 (get_or s at 0) (and_left (leb 48 (get_or s at 0)) (leb (get_or s at 0) 57) is_digit_lem) in
        omega (arith, same, run_onward Decimal s at (present s at (get_or s at 0) refl (omega arith)) is_digit_lem)

    stated : IsDecimal (drop at s) at (number_at 10 s at n 0) (at + n)
    stated =
        let many : length (take n onward) ≡ n = run_length Word onward in
        record {
          digits = take n onward;
          rest = drop n onward;
          stands = sym (take-append-drop n onward);
          all = all_digits;
          ends = run_ends Word onward;
          some = omega (arith, many, begun);
          plain = λ z. many ∙ leading (get_or s at 0) at n tests.2 (sym first_onward ∙ sym (get_or-take n onward 0 0 begun) ∙ z);
          value =
              ap (λ (j : ℕ). number_at 10 s at j 0) (sym many)
              ∙ value_is Decimal decimal_told 10 s (take n onward) (drop n onward) at (sym (take-append-drop n onward)) all_digits;
          small = leb-true (number_at 10 s at n 0) largest u;
          after = ap (λ (j : ℕ). at + j) (sym many);
        }

  abbrev Decimal-at : Option Number → Type 0
  Decimal-at (Some d) = IsDecimal (drop at s) at d.value d.place
  Decimal-at None = Unit {0}

  all_decimal : Decimal-at (decimal_at s at)
  unfolding decimal_at run_end
  all_decimal =
      let many : at + n - at ≡ n = omega arith in
      by_case Decimal-at (is_digit (get_or s at 0) && is_plain (get_or s at 0) at (at + m) (at + n))
      (λ t.
      by_case Decimal-at (leb (number_at 10 s at (at + n - at) 0) largest)
      (λ u. subst (λ (j : ℕ). IsDecimal (drop at s) at (number_at 10 s at j 0) (at + n)) (sym many) (stated t (subst (λ (j : ℕ). leb (number_at 10 s at j 0) largest ≡ true) many u)))
      (λ u. tt))
      (λ t. tt)

  pub decimal_said : {v p : ℕ} → decimal_at s at ≡ plain v p → IsDecimal (drop at s) at v p
  decimal_said e = subst Decimal-at e all_decimal

  -- a decimal that stands there is read
  module _ {v p : ℕ} (h : IsDecimal (drop at s) at v p) where
    begins : (ds : List ℕ) → onward ≡ ds ++ h.rest → All Decimal ds → 1 ≤ length ds → (is_digit (get_or s at 0) ≡ true) × (get_or s at 0 ≡ get_or ds 0 0)
    begins [] e none l = absurd (omega arith)
    begins (b ∷ ds) e (more d i) l =
        let first = first_is s at b (ds ++ h.rest) e in
        (ap is_digit first ∙ d, first)

    pub digit_stands : is_digit (get_or s at 0) ≡ true
    digit_stands = (begins h.digits h.stands h.all h.some).0

    words : n ≡ length h.digits
    words = ap (run Word) h.stands ∙ run_is Word h.digits h.rest (wider Decimal Word word_of_digit h.digits h.all) h.ends

    pub decimal_end : run_end Word s at ≡ p
    unfolding run_end
    decimal_end = ap (λ (j : ℕ). at + j) words ∙ sym h.after

    pub decimal_read : decimal_at s at ≡ plain v p
    unfolding decimal_at run_end
    decimal_read =
        let d = length h.digits in
        let digits : m ≡ d = ap (run Decimal) h.stands ∙ run_is Decimal h.digits h.rest h.all (digits_end h.rest h.ends) in
        let first = (begins h.digits h.stands h.all h.some).1 in
        let equal = eq-eqb (at + m) (at + n) (omega (arith, words, digits)) in
        let short = le-leb (at + n) (at + decimal_digits)
        (omega (arith, words, few_digits h.digits h.all h.plain (subst (λ (x : ℕ). x ≤ largest) h.value h.small))) in
        let leads = unleading (get_or s at 0) at n (λ z. words ∙ h.plain (sym first ∙ z)) in
        let value : number_at 10 s at (at + n - at) 0 ≡ v =
        ap (λ (j : ℕ). number_at 10 s at j 0) (omega (arith, words)) ∙ value_is Decimal decimal_told 10 s h.digits h.rest at h.stands h.all ∙ sym h.value in
        let small = le-leb (number_at 10 s at (at + n - at) 0) largest (subst (λ (x : ℕ). x ≤ largest) (sym value) h.small) in
        rw (digit_stands, equal, short, leads, small, decimal_at)
        (ap (λ (x : ℕ). plain x (at + n)) value ∙ ap (λ (x : ℕ). plain v x) (ap (λ (j : ℕ). at + j) words ∙ sym h.after))

  -- none is read where none stands, and only there
  pub no_decimal : decimal_at s at ≡ None → (v p : ℕ) → IsDecimal (drop at s) at v p → ⊥
  no_decimal e v p h = subst Is-unread (sym e ∙ decimal_read h) tt

  pub is_unread : ((v p : ℕ) → IsDecimal (drop at s) at v p → ⊥) → decimal_at s at ≡ None
  is_unread h = none_of (decimal_at s at) all_decimal
    where
      none_of : (x : Option Number) → Decimal-at x → x ≡ None
      none_of (Some d) i = absurd (h d.value d.place i)
      none_of None i = refl

-- ---- constants

-- a digit is no mark
no_mark : (b mark : ℕ) → mark < digit 0 → is_digit b ≡ true → b ≡ mark → ⊥
no_mark b mark l e i = omega (arith, leb-true 48 b (and_left (leb 48 b) (leb b 57) e))

abbrev Is-missing : Option Constant → Type 0
Is-missing (Some d) = ⊥
Is-missing None = Unit {0}

module _ (s : List ℕ) (at : ℕ) where
  abbrev Constant-at : Option Constant → Type 0
  Constant-at (Some d) = IsConstant (drop at s) at d.value d.width d.place
  Constant-at None = Unit {0}

  of_decimal_lem : (n : Option Number) → Decimal-at s at n → Constant-at (of_decimal n)
  unfolding of_decimal
  of_decimal_lem (Some d) h = decimal h (shortest_least d.value h.small)
  of_decimal_lem None h = tt

  all_constant : Constant-at (constant_at s at)
  unfolding constant_at
  all_constant =
      by_case Constant-at (eqb (get_or s at 0) binary_mark)
      (λ t. marked_said binary_mark Binary 1 binary_digits binary_told s at (omega arith) (eqb-true (get_or s at 0) binary_mark t) Constant-at (λ v w p h. binary h) tt)
      (λ t.
      by_case Constant-at (eqb (get_or s at 0) octal_mark)
      (λ u. marked_said octal_mark Octal 3 octal_digits octal_told s at (omega arith) (eqb-true (get_or s at 0) octal_mark u) Constant-at (λ v w p h. octal h) tt)
      (λ u. of_decimal_lem (decimal_at s at) (all_decimal s at)))

  -- what is read is a constant that stands there
  pub constant_said : {v w p : ℕ} → constant_at s at ≡ found v w p → IsConstant (drop at s) at v w p
  constant_said e = subst Constant-at e all_constant

  -- a constant that stands there is read
  pub constant_read : {v w p : ℕ} → IsConstant (drop at s) at v w p → constant_at s at ≡ found v w p
  unfolding of_decimal
  constant_read (binary h) =
      by_binary s at (mark_stands s at h) ∙ marked_read binary_mark Binary 1 binary_digits binary_told s at h
  constant_read (octal h) =
      by_octal s at (mark_stands s at h) ∙ marked_read octal_mark Octal 3 octal_digits octal_told s at h
  constant_read (decimal {v = v} {n = n} {p = p} h g) =
      let d = digit_stands s at h in
      by_decimal s at (no_mark (get_or s at 0) binary_mark (omega arith) d) (no_mark (get_or s at 0) octal_mark (omega arith) d)
      ∙ ap of_decimal (decimal_read s at h)
      ∙ ap (λ (k : ℕ). found v (k + 1) p) (one_shortest v (shortest v) n (shortest_least v h.small) g)

  -- none is read where none stands, and only there
  pub no_constant : constant_at s at ≡ None → (v w p : ℕ) → IsConstant (drop at s) at v w p → ⊥
  no_constant e v w p h = subst Is-missing (sym e ∙ constant_read h) tt

  pub is_missing_lem : ((v w p : ℕ) → IsConstant (drop at s) at v w p → ⊥) → constant_at s at ≡ None
  is_missing_lem h = none_of (constant_at s at) all_constant
    where
      none_of : (x : Option Constant) → Constant-at x → x ≡ None
      none_of (Some d) i = absurd (h d.value d.width d.place i)
      none_of None i = refl

  -- at most one stands there
  pub one_constant : {v w p x y z : ℕ} → IsConstant (drop at s) at v w p → IsConstant (drop at s) at x y z → ◌≡◌ {A = Option Constant} (found v w p) (found x y z)
  one_constant h g = sym (constant_read h) ∙ constant_read g
