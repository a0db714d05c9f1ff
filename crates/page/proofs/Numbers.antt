-- Numbers written out: one digit more, and how many there are.
-- Assumes nothing.
use mathlib.Core.Path.{◌≡◌, refl, sym, ap, ap₂, ◌∙◌}
use mathlib.Core.Bool.{Bool, true, false}
use mathlib.Core.List.{List, [], ◌∷◌, ◌++◌}
use Prim.Native.Nat.{ℕ, zero, suc, ◌+◌, ◌-◌, ◌/◌, ◌%◌, ◌^◌, ◌≤◌, ◌<◌}
use native.Mathlib.Nat.{not-suc-le-zero}
use native.Mathlib.Numerals.{sub-one, add-one}
use native.Mathlib.Omega.{arith}
use lib.ListN.{length, take, drop, set, length-append, length-set}
use Rattle.std.proofs.Common.{length-take-le}
use Rattle.std.proofs.Math.Seq.{drop-length}
use Rattle.std.proofs.lemmas.List.{drop-set}
use lib.Dec.{ltb}
use borrow.Author.Tests.{lt-ltb, le-ltb, ltb-true, ltb-false}
use Rattle.characters.specs.Ascii.{digit}
use Rattle.page.specs.Text.{octal, decimal_in, decimal}

pub octal_more : (n x : ℕ) → 0 < n → octal n x ≡ octal (n - 1) (x / 8) ++ digit (x % 8) ∷ []
unfolding octal
octal_more zero x h = absurd (not-suc-le-zero h)
octal_more (suc n) x h = rw (sub-one (suc n))

pub octal_length : (n x : ℕ) → length (octal n x) ≡ n
unfolding octal
octal_length zero x = refl
octal_length (suc n) x = rw (length-append (octal n (x / 8)) (digit (x % 8) ∷ []), octal_length n (x / 8)) (add-one n)

-- the last digit in the last place, and the others before it
pub octal_placed : (l : List ℕ) (x d : ℕ) {front : List ℕ} → 0 < length l → d ≡ digit (x % 8)
    → front ≡ octal (length (take (length l - 1) (set l (length l - 1) d))) (x / 8)
    → front ++ drop (length l - 1) (set l (length l - 1) d) ≡ octal (length l) x
octal_placed l x d h e f =
    let n = length l - 1 in
    let size : length (take n (set l n d)) ≡ n = length-take-le n (set l n d) (omega (arith, length-set l n d)) in
    let last : drop n (set l n d) ≡ digit (x % 8) ∷ [] =
    drop-set l n d (omega arith) ∙ ap₂ (λ (b k : ℕ). b ∷ drop k l) e (omega arith) ∙ ap (λ (k : List ℕ). digit (x % 8) ∷ k) (drop-length l) in
    ap₂ (λ (a b : List ℕ). a ++ b) (f ∙ ap (λ (k : ℕ). octal k (x / 8)) size) last ∙ sym (octal_more (length l) x h)

-- x + 1 digits are enough, and so is every greater number
enough : (m n x : ℕ) → x < m → x < n → decimal_in m x ≡ decimal_in n x
enough zero n x h k = absurd (not-suc-le-zero h)
enough (suc m) zero x h k = absurd (not-suc-le-zero k)
enough (suc m) (suc n) x h k = go (ltb x 10) refl (λ l r. enough m n (x / 10) l r)
  where
    go : (t : Bool) → ltb x 10 ≡ t → (x / 10 < m → x / 10 < n → decimal_in m (x / 10) ≡ decimal_in n (x / 10)) → decimal_in (suc m) x ≡ decimal_in (suc n) x
    go true e more = unfold decimal_in in (rw (e, decimal_in))
    go false e more = let large = ltb-false x 10 e in unfold decimal_in in (rw (e, more (omega arith) (omega arith), decimal_in))

pub decimal_one : (x : ℕ) → x < 10 → decimal x ≡ digit x ∷ []
unfolding decimal decimal_in
decimal_one x h = rw (lt-ltb x 10 h, decimal_in)

pub decimal_more : (x : ℕ) → 10 ≤ x → decimal x ≡ decimal (x / 10) ++ digit (x % 10) ∷ []
unfolding decimal decimal_in
decimal_more x h = rw (le-ltb x 10 h, decimal_in) (rw (enough x (suc (x / 10)) (x / 10) (omega arith) (omega arith)))

pub decimal_grows : (x : ℕ) → 10 ≤ x → length (decimal x) ≡ length (decimal (x / 10)) + 1
decimal_grows x h = rw (decimal_more x h) (length-append (decimal (x / 10)) (digit (x % 10) ∷ []))

-- a number below a power of ten
pub decimal_length : (n x : ℕ) → x < 10 ^ suc n → length (decimal x) ≤ suc n
decimal_length zero x h = rw (decimal_one x h) (omega arith)
decimal_length (suc n) x h = go (ltb x 10) refl (λ l. decimal_length n (x / 10) l)
  where
    go : (t : Bool) → ltb x 10 ≡ t → (x / 10 < 10 ^ suc n → length (decimal (x / 10)) ≤ suc n) → length (decimal x) ≤ suc (suc n)
    go true e more = rw (decimal_one x (ltb-true x 10 e)) (omega arith)
    go false e more = let short = more (omega arith) in rw (decimal_grows x (ltb-false x 10 e)) (omega arith)
