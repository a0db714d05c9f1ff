-- What a token tells: closing brackets are no operators, the words Not and M begin with a letter, and a constant begins neither with a letter nor with a parenthesis.
-- And words as compared.
-- Assumes nothing.
use mathlib.Core.Path.{◌≡◌, refl, sym, ap, ◌∙◌}
use mathlib.Core.Bool.{true, false, false≢true}
use mathlib.Core.List.{List}
use Prim.Native.Nat.{ℕ, ◌≤◌, ◌<◌}
use native.Mathlib.Omega.{arith}
use lib.Dec.{leb}
use lib.ListN.{get_or, drop}
use borrow.Author.Tests.{leb-true, lt-leb}
use Rattle.laws.proofs.Tests.{by_test}
use Rattle.laws.proofs.Joined.{and_left, and_right}
use Rattle.characters.specs.Ascii.{ascii, digit}
use Rattle.characters.specs.Characters.{is_digit, is_letter, same}
use Rattle.characters.proofs.Strings.{equal}
use Rattle.text_constants.specs.Constants.{binary_mark, octal_mark, constant_at, found}
use Rattle.text_constants.specs.Numerals.{IsConstant, binary, octal, decimal}
use Rattle.text_constants.proofs.Numerals.{mark_stands, digit_stands, constant_said}
use Rattle.text_operators.specs.Operators.{entry_in}
use Rattle.text_operators.specs.OperatorNames.{operator_row, find_in}
use Rattle.text_tokens.specs.Tokens.{next, token, operator_at}
use Rattle.text_tokens.specs.Signs.{round_open, not_token, memory_token}
use Rattle.text_tokens.proofs.Tokens.{word, token_first, token_word, word_token}
use Rattle.text_grammar.specs.Says.{strength}

-- closing brackets are no operators
pub round_weak : (s : List ℕ) (q : ℕ) → token s q ≡ ascii ")" → strength s q ≡ 0
unfolding operator_at operator_row find_in same
round_weak s q e = ap (λ (l : List ℕ). (entry_in (operator_row l)).strength) e

pub square_weak : (s : List ℕ) (q : ℕ) → token s q ≡ ascii "]" → strength s q ≡ 0
unfolding operator_at operator_row find_in same
square_weak s q e = ap (λ (l : List ℕ). (entry_in (operator_row l)).strength) e

-- words as compared
pub is_word_lem : (a b : List ℕ) → same b b ≡ true → a ≡ b → same a b ≡ true
is_word_lem a b i e = ap (λ (z : List ℕ). same z b) e ∙ i

pub is_no_word : (a b : List ℕ) → (a ≡ b → ⊥) → same a b ≡ false
is_no_word a b h = by_test (same a b) (λ t. absurd (h (equal a b t))) (λ t. t)

pub memory_no_not : same memory_token not_token ≡ false
unfolding same
memory_no_not = refl

-- the words Not and M, as tokens and as runs
module _ (s : List ℕ) (at : ℕ) where
  pub not_letter : token s at ≡ ascii "Not" → is_letter (next s at) ≡ true
  not_letter e = ap is_letter (token_first s at _ _ e)

  pub memory_letter : token s at ≡ ascii "M" → is_letter (next s at) ≡ true
  memory_letter e = ap is_letter (token_first s at _ _ e)

  pub not_word_lem : token s at ≡ ascii "Not" → word s at ≡ ascii "Not"
  not_word_lem e = token_word s at _ _ refl e

  pub memory_word : token s at ≡ ascii "M" → word s at ≡ ascii "M"
  memory_word e = token_word s at _ _ refl e

  pub word_not : word s at ≡ ascii "Not" → token s at ≡ ascii "Not"
  word_not e = word_token s at _ _ refl e

  pub word_memory : word s at ≡ ascii "M" → token s at ≡ ascii "M"
  word_memory e = word_token s at _ _ refl e

pub no_open : (x : ℕ) → is_letter x ≡ true → x ≡ round_open → ⊥
no_open x e o = false≢true (sym (ap is_letter o) ∙ e)

-- a constant's first byte is a mark or a digit
abbrev First : ℕ → Type 0
First b = (b ≡ round_open → ⊥) × (is_letter b ≡ false)

mark_first : (b mark : ℕ) → mark < round_open → is_letter mark ≡ false → b ≡ mark → First b
mark_first b mark l n e = ((λ o. omega (arith, o, e)), ap is_letter e ∙ n)

digit_first : (b : ℕ) → is_digit b ≡ true → First b
digit_first b e =
    let h : b ≤ digit 9 = leb-true b (digit 9) (and_right (leb (digit 0) b) (leb b (digit 9)) e) in
    let l : digit 0 ≤ b = leb-true (digit 0) b (and_left (leb (digit 0) b) (leb b (digit 9)) e) in
    ((λ o. omega (arith, o, l)), rw (lt-leb 65 b (omega (arith, h)), lt-leb 97 b (omega (arith, h))))

is_first : (s : List ℕ) (i : ℕ) {v w p : ℕ} → IsConstant (drop i s) i v w p → First (get_or s i 0)
is_first s i (binary h) = mark_first (get_or s i 0) binary_mark (omega arith) refl (mark_stands s i h)
is_first s i (octal h) = mark_first (get_or s i 0) octal_mark (omega arith) refl (mark_stands s i h)
is_first s i (decimal h g) = digit_first (get_or s i 0) (digit_stands s i h)

pub constant_first : (s : List ℕ) (i : ℕ) {v w p : ℕ} → constant_at s i ≡ found v w p → First (get_or s i 0)
constant_first s i e = is_first s i (constant_said s i e)
