-- The laws of bit parts, for every width: a part and a join fit their widths, a stored part is read back, and "a bit part's other bits
-- stay". A field is what stands p places from the right end in q bits; a bit part of a word is the field that `bits` names.
-- Assumes nothing.
use Rattle.std.proofs.Common.{◌≡◌, ℕ, ◌+◌, ◌-◌, ◌/◌, ◌%◌, ◌^◌, ◌<◌, ◌≤◌, sym, ap, ◌∙◌, subst, mod-lt, arith, pow_pos, pow-add, shr-shr}
use lib.Arith.{digits_lt}
use lib.Pow.{high, low, mod-mod-pow}
use Rattle.word.specs.Word.{field, with_field, bits, with_bits, join}

-- a field fits its bits
field_lt : (p q x : ℕ) → field p q x < 2 ^ q
field_lt p q x = mod-lt (x / 2 ^ p) (pow_pos q)

-- "@ the sum": a join of j and k bits has j + k
pub join_lt : (j k : ℕ) {x y : ℕ} → x < 2 ^ j → y < 2 ^ k → join k x y < 2 ^ (j + k)
join_lt j k {x} {y} hx hy = subst (λ (n : ℕ). join k x y < n) (sym (pow-add 2 j k)) (digits_lt hx hy)

-- a join's two sides are read back
pub join_left : (k : ℕ) {x y : ℕ} → y < 2 ^ k → join k x y / 2 ^ k ≡ x
join_left k {x} h = high x k h

pub join_right : (k x : ℕ) {y : ℕ} → y < 2 ^ k → join k x y % 2 ^ k ≡ y
join_right k x h = low x k h

-- what stands in the part and on its right, as one number of q + p bits
tail : (p q x v : ℕ) → ℕ
tail p q x v = join p (v % 2 ^ q) (x % 2 ^ p)

tail_lt : (p q x v : ℕ) → tail p q x v < 2 ^ (q + p)
unfolding tail
tail_lt p q x v = join_lt q p (mod-lt v (pow_pos q)) (mod-lt x (pow_pos p))

-- above the part nothing changes, and in and below it stands the tail
above : (p q x v : ℕ) → with_field p q x v / 2 ^ (q + p) ≡ x / 2 ^ (q + p)
unfolding tail
above p q x v = join_left (q + p) (tail_lt p q x v)

within : (p q x v : ℕ) → with_field p q x v % 2 ^ (q + p) ≡ tail p q x v
unfolding tail
within p q x v = join_right (q + p) (x / 2 ^ (q + p)) (tail_lt p q x v)

below : (p q x v : ℕ) → with_field p q x v % 2 ^ p ≡ x % 2 ^ p
unfolding tail
below p q x v =
    sym (mod-mod-pow (with_field p q x v) q p)
    ∙ ap (λ (t : ℕ). t % 2 ^ p) (within p q x v)
    ∙ join_right p (v % 2 ^ q) (mod-lt x (pow_pos p))

-- a stored part is read back, without the left bits that it has no place for
field_stored : (p q x v : ℕ) → field p q (with_field p q x v) ≡ v % 2 ^ q
unfolding tail
field_stored p q x v =
    sym (lib.Pow.field (with_field p q x v) q p)
    ∙ ap (λ (t : ℕ). t / 2 ^ p) (within p q x v)
    ∙ join_left p (mod-lt x (pow_pos p))

-- a field that stands left of the part, n places above its end, stays
kept_left : (p q n r x v : ℕ) → field (q + p + n) r (with_field p q x v) ≡ field (q + p + n) r x
kept_left p q n r x v =
    ap (λ (t : ℕ). t % 2 ^ r)
    (sym (shr-shr (with_field p q x v) (q + p) n) ∙ ap (λ (t : ℕ). t / 2 ^ n) (above p q x v) ∙ shr-shr x (q + p) n)

-- a field that stands right of the part, n places below its end, stays
kept_right : (k r n q x v : ℕ) → field k r (with_field (n + (r + k)) q x v) ≡ field k r x
kept_right k r n q x v = same (with_field (n + (r + k)) q x v) x (below (n + (r + k)) q x v)
  where
    -- a field is read off any remainder that holds it
    off : (y : ℕ) → y % 2 ^ (n + (r + k)) % 2 ^ (r + k) / 2 ^ k ≡ field k r y
    off y = ap (λ (t : ℕ). t / 2 ^ k) (mod-mod-pow y n (r + k)) ∙ lib.Pow.field y r k

    same : (y z : ℕ) → y % 2 ^ (n + (r + k)) ≡ z % 2 ^ (n + (r + k)) → field k r y ≡ field k r z
    same y z e = sym (off y) ∙ ap (λ (t : ℕ). t % 2 ^ (r + k) / 2 ^ k) e ∙ off z

-- a word stays within its width when a part of it is stored
stored_lt : (n p q : ℕ) {x : ℕ} (v : ℕ) → x < 2 ^ (n + (q + p)) → with_field p q x v < 2 ^ (n + (q + p))
unfolding tail
stored_lt n p q {x} v h = join_lt n (q + p) (lib.Pow.shr_lt n (q + p) h) (tail_lt p q x v)

-- the same laws by bit numbers: bits a to b of a word of w bits
module _ (w a b : ℕ) (ordered : a ≤ b) (inside : b < w) where
  -- the bits left of the part, in the part and right of it make up the word
  places : a + (b - a + 1 + (w - 1 - b)) ≡ w
  places = omega arith

  pub bits_lt : (x : ℕ) → bits w a b x < 2 ^ (b - a + 1)
  bits_lt x = field_lt (w - 1 - b) (b - a + 1) x

  pub bits_stored : (x v : ℕ) → bits w a b (with_bits w a b x v) ≡ v % 2 ^ (b - a + 1)
  bits_stored x v = field_stored (w - 1 - b) (b - a + 1) x v

  pub with_bits_lt : {x : ℕ} (v : ℕ) → x < 2 ^ w → with_bits w a b x v < 2 ^ w
  with_bits_lt {x} v h =
      subst (λ (n : ℕ). with_bits w a b x v < 2 ^ n) places
      (stored_lt a (w - 1 - b) (b - a + 1) v (subst (λ (n : ℕ). x < 2 ^ n) (sym places) h))

  -- bit k, left or right of the part, stays
  pub bit_kept_left : (k x v : ℕ) → k < a → bits w k k (with_bits w a b x v) ≡ bits w k k x
  bit_kept_left k x v h =
      subst (λ (n : ℕ). field n (k - k + 1) (with_bits w a b x v) ≡ field n (k - k + 1) x) place
      (kept_left (w - 1 - b) (b - a + 1) (a - 1 - k) (k - k + 1) x v)
    where
      place : b - a + 1 + (w - 1 - b) + (a - 1 - k) ≡ w - 1 - k
      place = omega arith

  pub bit_kept_right : (k x v : ℕ) → b < k → k < w → bits w k k (with_bits w a b x v) ≡ bits w k k x
  bit_kept_right k x v h l =
      subst (λ (n : ℕ). bits w k k (with_field n (b - a + 1) x v) ≡ bits w k k x) place
      (kept_right (w - 1 - k) (k - k + 1) (k - 1 - b) (b - a + 1) x v)
    where
      place : k - 1 - b + (k - k + 1 + (w - 1 - k)) ≡ w - 1 - b
      place = omega arith
