-- The shortest form: the search for it, one number of bits after the other; `shortest` is the least that hold a value, and there is one such number.
-- Assumes nothing.
use mathlib.Core.Path.{◌≡◌, refl, sym, ap, subst}
use mathlib.Core.Bool.{true, false}
use Prim.Native.Nat.{ℕ, zero, suc, ◌+◌, ◌-◌, ◌^◌, ◌≤◌, ◌<◌}
use native.Mathlib.Numerals.{sub-one}
use native.Mathlib.Nat.{add-zero}
use native.Mathlib.Omega.{arith}
use lib.Dec.{leb}
use lib.Pow.{pow_mono}
use borrow.Author.Tests.{ltb-true, ltb-false, leb-true, leb-false}
use Rattle.laws.proofs.Tests.{by_test, by_case}
use Rattle.word.specs.Word.{fits}
use Rattle.text_constants.specs.Constants.{largest, shortest_from, shortest}
use Rattle.text_constants.specs.Numerals.{Shortest}

-- the search for the least number of bits
pub longer : (f n v : ℕ) → fits n v ≡ false → 0 < f → shortest_from f n v ≡ shortest_from (f - 1) (n + 1) v
unfolding shortest_from
longer zero n v e h = absurd (omega arith)
longer (suc f) n v e h = rw (e, shortest_from) (ap (λ (k : ℕ). shortest_from k (n + 1) v) (sym (sub-one (suc f))))

pub long_enough : (f n v : ℕ) → fits n v ≡ true → shortest_from f n v ≡ n
unfolding shortest_from
long_enough zero n v e = refl
long_enough (suc f) n v e = rw (e, shortest_from)

pub shortest_le : (f n v : ℕ) → shortest_from f n v ≤ n + f
unfolding shortest_from
shortest_le zero n v = omega arith
shortest_le (suc f) n v =
    let ih : shortest_from f (n + 1) v ≤ n + 1 + f = shortest_le f (n + 1) v in
    by_test (fits n v)
    (λ e. omega (arith, long_enough (suc f) n v e))
    (λ e.
    let step : shortest_from (suc f) n v ≡ shortest_from f (n + 1) v = rw (e, shortest_from) in
    omega arith)

-- the search gives no fewer bits than it begins with
some_from : (f n v : ℕ) → 1 ≤ n → 1 ≤ shortest_from f n v
unfolding shortest_from
some_from zero n v h = h
some_from (suc f) n v h = by_case (λ (m : ℕ). 1 ≤ m) (fits n v) (λ t. h) (λ t. some_from f (n + 1) v (omega arith))

-- its bits hold the value, if the last number that is tried does
holds_from : (f n v : ℕ) → v < 2 ^ (n + f) → v < 2 ^ shortest_from f n v
unfolding shortest_from
holds_from zero n v h = subst (λ (e : ℕ). v < 2 ^ e) (add-zero n) h
holds_from (suc f) n v h =
    by_case (λ (m : ℕ). v < 2 ^ m) (fits n v)
    (λ t. ltb-true v (2 ^ n) t)
    (λ t. holds_from f (n + 1) v (subst (λ (e : ℕ). v < 2 ^ e) (shift n f) h))
  where
    shift : (x y : ℕ) → x + suc y ≡ x + 1 + y
    shift x y = omega arith

-- and no smaller number, from the first one on, does
least_from : (f n v m : ℕ) → n ≤ m → v < 2 ^ m → shortest_from f n v ≤ m
unfolding shortest_from
least_from zero n v m l h = l
least_from (suc f) n v m l h =
    by_case (λ (k : ℕ). k ≤ m) (fits n v)
    (λ t. l)
    (λ t. least_from f (n + 1) v m (above (ltb-false v (2 ^ n) t)) h)
  where
    above : 2 ^ n ≤ v → n + 1 ≤ m
    above g =
        by_test (leb (n + 1) m)
        (λ u. leb-true (n + 1) m u)
        (λ u. absurd (omega (arith, pow_mono {i = m} {j = n} (omega (arith, leb-false (n + 1) m u)))))

pub shortest_least : (v : ℕ) → v ≤ largest → Shortest v (shortest v)
shortest_least v h =
    record { some = some_from _ _ v (omega arith); holds = holds_from _ _ v (omega arith); least = λ m l g. least_from _ _ v m (omega arith) g }

pub one_shortest : (v m n : ℕ) → Shortest v m → Shortest v n → m ≡ n
one_shortest v m n h g = omega (arith, h.least n g.some g.holds, g.least m h.some h.holds)
