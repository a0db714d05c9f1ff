-- The laws of tokens: where they end, and what stands next.
-- Assumes nothing.
use mathlib.Core.Path.{◌≡◌, refl, sym, ap, ◌∙◌}
use mathlib.Core.Bool.{true, false}
use mathlib.Core.List.{List, [], ◌∷◌}
use Prim.Native.Nat.{ℕ, zero, suc, ◌+◌, ◌-◌, ◌≤◌, ◌<◌}
use native.Mathlib.Omega.{arith}
use lib.Dec.{eqb}
use lib.ListN.{length, get_or, take, drop}
use lib.Seq.{drop-cons}
use borrow.Author.Tests.{eq-eqb, ne_eqb, eqb-false}
use Rattle.characters.specs.Characters.{is_word, run_end}
use Rattle.characters.specs.declared.Class.TheVariants.{Word, Binary, Octal}
use Rattle.characters.proofs.Runs.{onward, within, run_onward}
use Rattle.laws.proofs.Tests.{by_case}
use Rattle.laws.proofs.Lists.{present}
use Rattle.text_constants.specs.Constants.{binary_mark, octal_mark}
use Rattle.text_tokens.specs.Signs.{round_open, round_close, square_open, square_close, angle_open, angle_close, colon}
use Rattle.text_tokens.specs.Tokens.{skip, next, token_end, slice, after_token, token}

-- a token ends with its run of letters, digits and dots, with the digits behind its mark, or after its one sign; and it is not empty
module _ (s : List ℕ) (at : ℕ) where
  pub word_end_lem : is_word (get_or s at 0) ≡ true → token_end s at ≡ run_end Word s at
  unfolding token_end
  word_end_lem e = rw (e, token_end)

  pub binary_end : get_or s at 0 ≡ binary_mark → token_end s at ≡ run_end Binary s (at + 1)
  unfolding token_end
  binary_end e = rw (no_word, eq-eqb (get_or s at 0) binary_mark e, token_end)
    where
      no_word : is_word (get_or s at 0) ≡ false
      no_word = ap is_word e

  pub octal_end : get_or s at 0 ≡ octal_mark → token_end s at ≡ run_end Octal s (at + 1)
  unfolding token_end
  octal_end e = rw (no_word, no_binary, eq-eqb (get_or s at 0) octal_mark e, token_end)
    where
      no_word : is_word (get_or s at 0) ≡ false
      no_word = ap is_word e

      no_binary : eqb (get_or s at 0) binary_mark ≡ false
      no_binary = ap (λ (b : ℕ). eqb b binary_mark) e

  pub other_end : is_word (get_or s at 0) ≡ false → (get_or s at 0 ≡ binary_mark → ⊥) → (get_or s at 0 ≡ octal_mark → ⊥) → token_end s at ≡ at + 1
  unfolding token_end
  other_end e f g = rw (e, ne_eqb (get_or s at 0) binary_mark f, ne_eqb (get_or s at 0) octal_mark g, token_end)

  -- which of them it is, is told
  token_is : (P : ℕ → Type 0) → (is_word (get_or s at 0) ≡ true → P (run_end Word s at)) → P (run_end Binary s (at + 1)) → P (run_end Octal s (at + 1)) → P (at + 1) → P (token_end s at)
  unfolding token_end
  token_is P w b o x = by_case P (is_word (get_or s at 0)) w (λ e. by_case P (eqb (get_or s at 0) binary_mark) (λ f. b) (λ f. by_case P (eqb (get_or s at 0) octal_mark) (λ g. o) (λ g. x)))

  pub token_onward : at ≤ token_end s at
  token_onward =
      token_is (λ (p : ℕ). at ≤ p)
      (λ e. onward Word s at)
      (omega (arith, onward Binary s (at + 1)))
      (omega (arith, onward Octal s (at + 1)))
      (omega arith)

  pub token_inside : at < length s → (at < token_end s at) × (token_end s at ≤ length s)
  token_inside h =
      token_is (λ (p : ℕ). (at < p) × (p ≤ length s))
      (λ e. (run_onward Word s at h e, within Word s at (omega arith)))
      (omega (arith, onward Binary s (at + 1), within Binary s (at + 1) (omega arith)))
      (omega (arith, onward Octal s (at + 1), within Octal s (at + 1) (omega arith)))
      (omega arith)

-- the first byte of a part
empty : (b : ℕ) (t : List ℕ) → [] ≡ b ∷ t → ⊥
empty b t e = none (ap (λ (l : List ℕ). length l) e)
  where
    none : 0 ≡ suc (length t) → ⊥
    none h = omega (arith, h)

first_is : (s : List ℕ) (n i b : ℕ) (t : List ℕ) → take n (drop i s) ≡ b ∷ t → get_or s i 0 ≡ b
first_is [] zero i b t e = absurd (empty b t e)
first_is [] (suc n) zero b t e = absurd (empty b t e)
first_is [] (suc n) (suc i) b t e = absurd (empty b t e)
first_is (x ∷ s) zero zero b t e = absurd (empty b t e)
first_is (x ∷ s) zero (suc i) b t e = absurd (empty b t e)
first_is (x ∷ s) (suc n) zero b t e = ap (λ (l : List ℕ). get_or l 0 0) e
first_is (x ∷ s) (suc n) (suc i) b t e = first_is s (suc n) i b t e

-- a sign that is no mark
pub record Sign (b : ℕ) : Type 0 where
  pub some : 0 < b
  pub no_word : is_word b ≡ false
  pub no_binary : b ≡ binary_mark → ⊥
  pub no_octal : b ≡ octal_mark → ⊥

sign_of : (b : ℕ) → (0 < b) × (is_word b ≡ false) × (eqb b binary_mark ≡ false) × (eqb b octal_mark ≡ false) → Sign b
sign_of b h = record { some = h.0; no_word = h.1; no_binary = eqb-false b binary_mark h.2; no_octal = eqb-false b octal_mark h.3 }

pub round_open_lem : Sign round_open
round_open_lem = sign_of round_open (omega arith, refl, refl, refl)

pub round_close_lem : Sign round_close
round_close_lem = sign_of round_close (omega arith, refl, refl, refl)

pub square_open_lem : Sign square_open
square_open_lem = sign_of square_open (omega arith, refl, refl, refl)

pub square_close_lem : Sign square_close
square_close_lem = sign_of square_close (omega arith, refl, refl, refl)

pub angle_open_lem : Sign angle_open
angle_open_lem = sign_of angle_open (omega arith, refl, refl, refl)

pub angle_close_lem : Sign angle_close
angle_close_lem = sign_of angle_close (omega arith, refl, refl, refl)

pub colon_sign : Sign colon
colon_sign = sign_of colon (omega arith, refl, refl, refl)

-- the token that stands next, by its first byte
module _ (s : List ℕ) (at : ℕ) where
  -- a run of letters, digits and dots
  abbrev pub word_end : ℕ
  word_end = run_end Word s (skip s at)

  abbrev pub word : List ℕ
  word = slice s (skip s at) word_end

  pub after_word : is_word (next s at) ≡ true → after_token s at ≡ word_end
  after_word e = word_end_lem s (skip s at) e

  module _ (b : ℕ) (t : List ℕ) where
    pub token_first : token s at ≡ b ∷ t → next s at ≡ b
    token_first e = first_is s (after_token s at - skip s at) (skip s at) b t e

    word_first : word ≡ b ∷ t → next s at ≡ b
    word_first e = first_is s (word_end - skip s at) (skip s at) b t e

    pub token_word : is_word b ≡ true → token s at ≡ b ∷ t → word ≡ b ∷ t
    token_word i e = sym (ap (slice s (skip s at)) (after_word (ap is_word (token_first e) ∙ i))) ∙ e

    pub word_token : is_word b ≡ true → word ≡ b ∷ t → token s at ≡ b ∷ t
    word_token i e = ap (slice s (skip s at)) (after_word (ap is_word (word_first e) ∙ i)) ∙ e

  -- a sign
  module _ (b : ℕ) (h : Sign b) where
    pub sign_after : next s at ≡ b → after_token s at ≡ skip s at + 1
    sign_after e = other_end s (skip s at) (ap is_word e ∙ h.no_word) (λ x. h.no_binary (sym e ∙ x)) (λ x. h.no_octal (sym e ∙ x))

    pub sign_token : next s at ≡ b → token s at ≡ b ∷ []
    sign_token e =
        let i = skip s at in
        let one : (i + 1) - i ≡ 1 = omega arith in
        ap (λ (n : ℕ). take (n - i) (drop i s)) (sign_after e)
        ∙ ap (λ (n : ℕ). take n (drop i s)) one
        ∙ ap (λ (l : List ℕ). take 1 l) (drop-cons s i 0 (present s i b e h.some))
        ∙ ap (λ (x : ℕ). x ∷ []) e

    pub token_after : token s at ≡ b ∷ [] → after_token s at ≡ skip s at + 1
    token_after e = sign_after (token_first b [] e)

-- the byte that stands next, as the code finds it
pub at_mark : (s : List ℕ) (p e x b : ℕ) → e ≡ skip s p → x ≡ get_or s e 0 → x ≡ b → eqb (next s p) b ≡ true
at_mark s p e x b he hx h = eq-eqb (next s p) b (ap (λ (k : ℕ). get_or s k 0) (sym he) ∙ sym hx ∙ h)

pub off_mark : (s : List ℕ) (p e x b : ℕ) → e ≡ skip s p → x ≡ get_or s e 0 → (x ≡ b → ⊥) → eqb (next s p) b ≡ false
off_mark s p e x b he hx h = ne_eqb (next s p) b (λ q. h (hx ∙ ap (λ (k : ℕ). get_or s k 0) he ∙ q))
