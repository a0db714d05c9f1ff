-- The laws of dictionaries: how many entries there are, and each; a name is looked for entry by entry, and an entry more leaves those before it as they are.
-- Assumes nothing.
use mathlib.Core.Path.{◌≡◌, refl, sym, ap, ◌∙◌}
use mathlib.Core.Logic.{◌≢◌}
use mathlib.Core.Bool.{true, false}
use mathlib.Core.List.{List, [], ◌∷◌, ◌++◌}
use Prim.Native.Nat.{ℕ, zero, suc, ◌+◌, ◌-◌, ◌≤◌, ◌<◌}
use native.Mathlib.Nat.{add-zero, zero-add, add-suc, suc-add, sub-zero, sub-add-eq}
use native.Mathlib.Numerals.{add-one, sub-one}
use native.Mathlib.Omega.{arith}
use lib.ListN.{length, get_or, take, drop, set}
use borrow.Author.Tests.{lt-ltb, le-ltb}
use lib.Seq.{get_or-set_same, get_or-set_other}
use Rattle.std.specs.Prelude.{Some, None}
use Rattle.characters.specs.Characters.{same}
use Rattle.characters.specs.Named.{Named, find, found}
use Rattle.text_names.specs.Dictionaries.{nothing, named_by, entry_at, entries_from, entries}
use Rattle.text_names.specs.declared.Dictionary.{Dictionary}

module _ (text : List ℕ) (d : Dictionary) where
  -- an entry and those after it, and none
  next_entry : (i n : ℕ) → 0 < n → entries_from text d i n ≡ entry_at text d i ∷ entries_from text d (i + 1) (n - 1)
  unfolding entries_from
  next_entry i zero h = absurd (omega arith)
  next_entry i (suc n) h = rw (add-one i) (ap (λ (k : ℕ). entry_at text d i ∷ entries_from text d (suc i) k) (sym (sub-one (suc n))))

  no_entry_lem : (i n : ℕ) → n ≤ 0 → entries_from text d i n ≡ []
  unfolding entries_from
  no_entry_lem i zero h = refl
  no_entry_lem i (suc n) h = absurd (omega arith)

-- how many entries there are
module _ (text : List ℕ) (d : Dictionary) where
  counted : (n i : ℕ) → length (entries_from text d i n) ≡ n
  unfolding entries_from
  counted zero i = refl
  counted (suc n) i = ap suc (counted n (suc i))

  pub entries_length : length (entries text d) ≡ d.count
  entries_length = counted d.count 0

  -- each of them
  pub entry_from : (n i j : ℕ) (z : Named) → j < n → get_or (entries_from text d i n) j z ≡ entry_at text d (i + j)
  unfolding entries_from
  entry_from zero i j z h = absurd (omega arith)
  entry_from (suc n) i zero z h = ap (entry_at text d) (sym (add-zero i))
  entry_from (suc n) i (suc j) z h = entry_from n (suc i) j z (omega arith) ∙ ap (entry_at text d) (suc-add i j ∙ sym (add-suc i j))

-- the search through a dictionary, from entry i on
module _ (s text : List ℕ) (d : Dictionary) where
  pub start : find s (entries text d) ≡ 0 + find s (entries_from text d 0 (d.count - 0))
  start = rw (sub-zero d.count) (sym (zero-add (find s (entries text d))))

  pub here : (i : ℕ) → i < d.count → same (entry_at text d i).name s ≡ true → i + find s (entries_from text d i (d.count - i)) ≡ i
  unfolding find
  here i h t = rw (next_entry text d i (d.count - i) (omega arith), t, find) (omega arith)

  pub later : (i : ℕ) → i < d.count → same (entry_at text d i).name s ≡ false
      → i + find s (entries_from text d i (d.count - i)) ≡ i + 1 + find s (entries_from text d (i + 1) (d.count - (i + 1)))
  unfolding find
  later i h t = rw (next_entry text d i (d.count - i) (omega arith), t, find, ← sub-add-eq d.count i 1) (omega arith)

  nowhere : (i : ℕ) → d.count ≤ i → i + find s (entries_from text d i (d.count - i)) ≡ i
  unfolding find
  nowhere i h = rw (no_entry_lem text d i (d.count - i) (omega arith)) (omega arith)

  -- the place is entry i's
  pub found_here : (i : ℕ) → i < d.count → find s (entries text d) ≡ i → found s (entries text d) ≡ Some i
  found_here i h e = rw (e, lt-ltb i (length (entries text d)) (omega (arith, h, entries_length text d)))

  -- no entry has the name
  pub found_nowhere : (i : ℕ) → d.count ≤ i → find s (entries text d) ≡ i + find s (entries_from text d i (d.count - i)) → found s (entries text d) ≡ None
  found_nowhere i h e =
      rw (le-ltb (find s (entries text d)) (length (entries text d)) (omega (arith, h, e, nowhere i h, entries_length text d)))

-- one entry more: the new dictionary has the old one's entries, and after them the new one
module _ (text : List ℕ) (d : Dictionary) (start n number : ℕ) where
  abbrev more : Dictionary
  more = record { count = d.count + 1; names = set d.names d.count (record { start = start; length = n; number = number }) }

  abbrev new : Named
  new = record { name = take n (drop start text); number = number }

  kept : (i : ℕ) → i ≢ d.count → entry_at text more i ≡ entry_at text d i
  kept i h = ap (named_by text) (get_or-set_other d.names d.count i (record { start = start; length = n; number = number }) nothing h)

  put : (i : ℕ) → i ≡ d.count → d.count < length d.names → entry_at text more i ≡ new
  put i e h = ap (entry_at text more) e ∙ ap (named_by text) (get_or-set_same d.names d.count (record { start = start; length = n; number = number }) nothing h)

  from : d.count < length d.names → (m i : ℕ) → i + m ≡ d.count
      → entries_from text more i (suc m) ≡ entries_from text d i m ++ (new ∷ [])
  unfolding entries_from
  from h zero i e = ap (λ (z : Named). z ∷ []) (put i (omega arith) h)
  from h (suc m) i e =
      ap (λ (z : Named). z ∷ entries_from text more (suc i) (suc m)) (kept i (omega arith))
      ∙ ap (λ (l : List Named). entry_at text d i ∷ l) (from h m (suc i) (omega arith))

  pub one_more : d.count < length d.names
      → entries text more ≡ entries text d ++ (new ∷ [])
  one_more h = ap (λ (k : ℕ). entries_from text more 0 k) (add-one d.count) ∙ from h d.count 0 (zero-add d.count)
