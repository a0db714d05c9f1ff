-- The laws of runs: where a run ends, by what stands at its start, and where it lies.
-- Assumes nothing.
use mathlib.Core.Path.{◌≡◌, refl, ◌∙◌}
use mathlib.Core.Bool.{true, false}
use mathlib.Core.List.{List, [], ◌∷◌}
use Prim.Native.Nat.{ℕ, suc, ◌+◌, ◌≤◌, ◌<◌}
use native.Mathlib.Nat.{zero-add}
use native.Mathlib.Numerals.{add-one}
use native.Mathlib.Omega.{arith}
use lib.Dec.{ltb}
use borrow.Author.Tests.{ltb-true, ltb-false}
use lib.ListN.{length, get_or, drop, length-drop, drop_of_length-le}
use lib.Seq.{drop-cons}
use Rattle.std.specs.List.{prefix_len, take_while}
use Rattle.std.proofs.lemmas.List.Folds.{length-prefix_len}
use Rattle.characters.specs.Characters.{belongs, run, run_end}
use Rattle.laws.proofs.Tests.{by_test}
use Rattle.characters.specs.declared.Class.{Class}

-- a run of one byte more, and none
pub run_more : (k : Class) (b : ℕ) (s : List ℕ) → belongs k b ≡ true → run k (b ∷ s) ≡ suc (run k s)
unfolding run
run_more k b s e = rw (e, run)

pub run_none : (k : Class) (b : ℕ) (s : List ℕ) → belongs k b ≡ false → run k (b ∷ s) ≡ 0
unfolding run
run_none k b s e = rw (e, run)

-- the library's longest prefix of bytes of a class
pub run_prefix : (k : Class) (s : List ℕ) → prefix_len (belongs k) s ≡ run k s
unfolding run
run_prefix k [] = refl
run_prefix k (b ∷ s) =
    by_test (belongs k b)
    (λ e. rw (e, run_prefix k s, run_more k b s e) (omega arith))
    (λ e. rw (e, run_none k b s e))

pub run_length : (k : Class) (s : List ℕ) → length (take_while (belongs k) s) ≡ run k s
run_length k s = length-prefix_len (belongs k) s ∙ run_prefix k s

pub run_le : (k : Class) (s : List ℕ) → run k s ≤ length s
unfolding run
run_le k [] = omega arith
run_le k (b ∷ s) =
    let h : run k s ≤ length s = run_le k s in
    by_test (belongs k b)
    (λ e. omega (arith, run_more k b s e))
    (λ e. omega (arith, run_none k b s e))

module _ (k : Class) (s : List ℕ) (at : ℕ) where
  -- at the end of the text
  pub at_end : length s ≤ at → run_end k s at ≡ at
  unfolding run_end run
  at_end h = rw (drop_of_length-le s h) (omega arith)

  -- at a byte of the class, and at another
  pub goes_on : at < length s → belongs k (get_or s at 0) ≡ true → run_end k s at ≡ run_end k s (at + 1)
  unfolding run_end
  goes_on h e = rw (drop-cons s at 0 h, add-one at, run_more k (get_or s at 0) (drop (suc at) s) e) (omega arith)

  pub stops : at < length s → belongs k (get_or s at 0) ≡ false → run_end k s at ≡ at
  unfolding run_end
  stops h e = rw (drop-cons s at 0 h, run_none k (get_or s at 0) (drop (suc at) s) e) (omega arith)

  -- where it ends
  pub onward : at ≤ run_end k s at
  unfolding run_end
  onward = omega arith

  pub within : at ≤ length s → run_end k s at ≤ length s
  unfolding run_end
  within h = omega (arith, run_le k (drop at s), length-drop at s)

-- a run that starts with a byte of its class is not empty
pub run_onward : (k : Class) (s : List ℕ) (at : ℕ) → at < length s → belongs k (get_or s at 0) ≡ true → at < run_end k s at
run_onward k s at h e = omega (arith, goes_on k s at h e, onward k s (at + 1))

-- a run from the text's start
pub from_start : (k : Class) (s : List ℕ) → run_end k s 0 ≡ run k s
unfolding run_end
from_start k s = zero-add (run k s)

-- a run of at least one byte more: its first byte is of the class, and the rest is a run
pub first_of : (k : Class) (s : List ℕ) (at n : ℕ) → at + suc n ≤ run_end k s at → (belongs k (get_or s at 0) ≡ true) × (at + 1 + n ≤ run_end k s (at + 1))
first_of k s at n h =
    by_test (ltb at (length s))
    (λ l.
    let i : at < length s = ltb-true at (length s) l in
    by_test (belongs k (get_or s at 0))
    (λ e. (e, omega (arith, goes_on k s at i e)))
    (λ e. absurd (omega (arith, stops k s at i e))))
    (λ l. absurd (omega (arith, at_end k s at (ltb-false at (length s) l))))

-- the same of a number that is a run's end
module _ (k : Class) (s : List ℕ) (at r : ℕ) (e : r ≡ run_end k s at) where
  pub after_start : at ≤ r
  after_start = omega (arith, onward k s at)

  pub before_end : at ≤ length s → r ≤ length s
  before_end h = omega (arith, within k s at h)
