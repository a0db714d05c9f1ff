-- The words one by one, as the code takes them: how many values a word takes, and the stack after it.
-- Assumes nothing.
use mathlib.Core.Path.{◌≡◌, refl, ap, ap₂, ◌∙◌}
use mathlib.Core.Bool.{Bool, true, false}
use mathlib.Core.List.{List}
use Prim.Native.Nat.{ℕ, zero, suc, ◌+◌, ◌-◌, ◌*◌, ◌%◌, ◌≤◌, ◌<◌}
use native.Mathlib.Omega.{arith}
use lib.Dec.{eqb, ltb}
use lib.ListN.{get_or, set}
use Rattle.word.specs.Choice.{pick}
use Rattle.rows_value.specs.Value.{State}
use Rattle.rows_value.specs.Words.{word_value, pops, Stack, stack_places, advance, executed}

pub few_pops : (r k : ℕ) → r ≡ pops k → r ≤ 2
unfolding pops
few_pops r k e = rw e (few (ltb k 3) (eqb k 5) (ltb k 8))
  where
    few : (a b c : Bool) → pick a 0 (pick b 2 (pick c 1 2)) ≤ 2
    few true b c = omega arith
    few false true c = omega arith
    few false false true = omega arith
    few false false false = omega arith

-- one word more, as the code finds it
module _ (s : State) (code : List ℕ) (at : ℕ) (stack : List ℕ) (depth p v : ℕ) where
  abbrev base : ℕ
  base = (depth + stack_places - p) % stack_places

  abbrev after : Stack
  after = record { places = set stack base v; depth = base + 1 }

  advanced : p ≡ pops (get_or code at 0)
      → v ≡ word_value s (get_or code at 0) (get_or code (at + 1) 0) (get_or code (at + 2) 0) (get_or code (at + 3) 0) (get_or stack base 0) (get_or stack ((base + 1) % stack_places) 0)
      → advance s (get_or code at 0) (get_or code (at + 1) 0) (get_or code (at + 2) 0) (get_or code (at + 3) 0) (record { places = stack; depth = depth }) ≡ after
  unfolding advance
  advanced e f = rw (f, e)

  one_word : (left : ℕ) → 0 < left → p ≡ pops (get_or code at 0)
      → v ≡ word_value s (get_or code at 0) (get_or code (at + 1) 0) (get_or code (at + 2) 0) (get_or code (at + 3) 0) (get_or stack base 0) (get_or stack ((base + 1) % stack_places) 0)
      → executed s code at left (record { places = stack; depth = depth }) ≡ executed s code (at + 4) (left - 1) after
  unfolding executed
  one_word zero h e f = absurd (omega arith)
  one_word (suc n) h e f =
      ap (executed s code (at + 4) n) (advanced e f) ∙ ap (λ (m : ℕ). executed s code (at + 4) m after) {x = n} {y = suc n - 1} (omega arith)

-- the same of the words that n from a place on have left after k of them
pub next_word : (s : State) (code : List ℕ) (from k n : ℕ) (stack : List ℕ) (depth p v : ℕ) → k < n → p ≡ pops (get_or code (from + 4 * k) 0)
    → v ≡ word_value s (get_or code (from + 4 * k) 0) (get_or code (from + 4 * k + 1) 0) (get_or code (from + 4 * k + 2) 0) (get_or code (from + 4 * k + 3) 0)
    (get_or stack ((depth + stack_places - p) % stack_places) 0) (get_or stack (((depth + stack_places - p) % stack_places + 1) % stack_places) 0)
    → executed s code (from + 4 * k) (n - k) (record { places = stack; depth = depth })
    ≡ executed s code (from + 4 * (k + 1)) (n - (k + 1)) (record { places = set stack ((depth + stack_places - p) % stack_places) v; depth = (depth + stack_places - p) % stack_places + 1 })
next_word s code from k n stack depth p v l e f =
    let after : Stack = record { places = set stack ((depth + stack_places - p) % stack_places) v; depth = (depth + stack_places - p) % stack_places + 1 } in
    one_word s code (from + 4 * k) stack depth p v (n - k) (omega (arith, l)) e f
    ∙ ap₂ (λ (i m : ℕ). executed s code i m after) {x = from + 4 * k + 4} {y = from + 4 * (k + 1)} (omega arith) (omega arith)

pub no_words : (s : State) (code : List ℕ) (at left : ℕ) (st : Stack) → left ≤ 0 → executed s code at left st ≡ st
unfolding executed
no_words s code at zero st h = refl
no_words s code at (suc n) st h = absurd (omega arith)
