-- The laws of rotation, for every width and every count: a rotated word fits its width, and a rotation and the other one by as many
-- places give the word back. Both rotations are two parts of a word that change places.
-- Assumes nothing.
use Rattle.std.proofs.Common.{◌≡◌, ℕ, ◌+◌, ◌-◌, ◌*◌, ◌/◌, ◌%◌, ◌^◌, ◌<◌, sym, ◌∙◌, subst, ap₂, mod-lt, add_comm, arith, pow_pos, shr_lt}
use lib.Pow.{split}
use Rattle.word.specs.Word.{swapped, rotated_left, rotated_right}
use Rattle.word.proofs.Parts.{join_lt, join_left, join_right}

-- the q bits on the left of p others
upper : (p q : ℕ) {x : ℕ} → x < 2 ^ (p + q) → x / 2 ^ p < 2 ^ q
upper p q {x} h = shr_lt q p (subst (λ (n : ℕ). x < 2 ^ n) (add_comm p q) h)

swapped_lt : (p q : ℕ) {x : ℕ} → x < 2 ^ (p + q) → swapped p q x < 2 ^ (p + q)
swapped_lt p q {x} h = join_lt p q (mod-lt x (pow_pos p)) (upper p q h)

-- changing places twice is no change
swapped_back : (p q : ℕ) {x : ℕ} → x < 2 ^ (p + q) → swapped q p (swapped p q x) ≡ x
swapped_back p q {x} h =
    ap₂ (λ (a b : ℕ). a * 2 ^ p + b) (join_right q (x % 2 ^ p) (upper p q h)) (join_left q (upper p q h))
    ∙ split x p

module _ (w : ℕ) (some : 0 < w) (n : ℕ) where
  -- the places that a count comes to, and those that are left
  left : w - n % w + n % w ≡ w
  left = let h = mod-lt n some in omega arith

  right : n % w + (w - n % w) ≡ w
  right = let h = mod-lt n some in omega arith

  pub rotated_left_lt : {x : ℕ} → x < 2 ^ w → rotated_left w n x < 2 ^ w
  rotated_left_lt {x} h =
      subst (λ (k : ℕ). rotated_left w n x < 2 ^ k) left (swapped_lt (w - n % w) (n % w) (subst (λ (k : ℕ). x < 2 ^ k) (sym left) h))

  pub rotated_right_lt : {x : ℕ} → x < 2 ^ w → rotated_right w n x < 2 ^ w
  rotated_right_lt {x} h =
      subst (λ (k : ℕ). rotated_right w n x < 2 ^ k) right (swapped_lt (n % w) (w - n % w) (subst (λ (k : ℕ). x < 2 ^ k) (sym right) h))

  pub left_then_right : {x : ℕ} → x < 2 ^ w → rotated_right w n (rotated_left w n x) ≡ x
  left_then_right {x} h = swapped_back (w - n % w) (n % w) (subst (λ (k : ℕ). x < 2 ^ k) (sym left) h)

  pub right_then_left : {x : ℕ} → x < 2 ^ w → rotated_left w n (rotated_right w n x) ≡ x
  right_then_left {x} h = swapped_back (n % w) (w - n % w) (subst (λ (k : ℕ). x < 2 ^ k) (sym right) h)
