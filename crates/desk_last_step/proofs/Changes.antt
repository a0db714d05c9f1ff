-- The lines of changed words: one address more, how many bytes they have, and what one store adds to them.
-- Assumes nothing.
use mathlib.Core.Path.{◌≡◌, refl, sym, ap, ◌∙◌}
use mathlib.Core.Bool.{Bool, true, false}
use mathlib.Core.List.{List, [], ◌∷◌, ◌++◌, append-nil, append_assoc}
use Prim.Native.Nat.{ℕ, zero, suc, ◌+◌, ◌≤◌, ◌<◌}
use native.Mathlib.Nat.{zero-add, add-zero, suc-add, add-suc}
use native.Mathlib.Numerals.{add-one}
use native.Mathlib.Omega.{arith}
use lib.Dec.{eqb}
use lib.ListN.{length, get_or, set, take, length-append}
use lib.Seq.{take_all}
use borrow.Author.Tests.{eq-eqb, ne_eqb}
use Rattle.word.specs.Choice.{pick}
use Rattle.characters.specs.Ascii.{ascii, tab, line_feed}
use Rattle.page.specs.Text.{octal}
use Rattle.page.proofs.Numbers.{octal_length}
use Rattle.desk_mnemonics.specs.Mnemonics.{mnemonic}
use Rattle.desk_mnemonics.proofs.Names.{mnemonic_size}
use Rattle.desk_last_step.specs.LastStep.{placed, last_line, word_line, change_line, change_lines}
use Rattle.desk_last_step.specs.Sizes.{last_line_bytes, word_line_bytes}

-- ---- sizes

pub placed_size : (first : List ℕ) (address word : ℕ) → length (placed first address word) ≡ length first + 10
placed_size first address word =
    let place = octal_length 4 address in
    let value = octal_length 4 word in
    simp length-append (omega arith)

pub last_size : (devices : Bool) (address word : ℕ) → length (last_line devices address word) ≤ last_line_bytes
unfolding last_line
last_size devices address word =
    let start = placed_size (ascii "last") address word in
    let name = mnemonic_size devices word address in
    let line = length-append (placed (ascii "last") address word ++ tab ∷ mnemonic devices word address) (line_feed ∷ []) in
    let parts = length-append (placed (ascii "last") address word) (tab ∷ mnemonic devices word address) in
    omega arith

word_size : (address before after : ℕ) → length (word_line address before after) ≡ word_line_bytes
unfolding word_line
word_size address before after =
    let start = placed_size (ascii "word") address before in
    let value = octal_length 4 after in
    let line = length-append (placed (ascii "word") address before ++ tab ∷ octal 4 after) (line_feed ∷ []) in
    let parts = length-append (placed (ascii "word") address before) (tab ∷ octal 4 after) in
    omega arith

pub changed_size : (address before after : ℕ) → (before ≡ after → ⊥) → length (change_line address before after) ≡ word_line_bytes
changed_size address before after h =
    ap (λ (t : Bool). length (pick t [] (word_line address before after))) (ne_eqb before after h) ∙ word_size address before after

change_size : (address before after : ℕ) → length (change_line address before after) ≤ word_line_bytes
change_size address before after = go (eqb before after)
  where
    go : (t : Bool) → length (pick t [] (word_line address before after)) ≤ word_line_bytes
    go true = omega arith
    go false = omega (arith, word_size address before after)

-- ---- one address after the other

take_more : (from a : ℕ) (xs ys : List ℕ) → a < length xs → a < length ys
    → change_lines from (take (suc a) xs) (take (suc a) ys) ≡ change_lines from (take a xs) (take a ys) ++ change_line (from + a) (get_or xs a 0) (get_or ys a 0)
unfolding change_lines
take_more from a [] ys h k = absurd (omega arith)
take_more from a (x ∷ xs) [] h k = absurd (omega arith)
take_more from zero (x ∷ xs) (y ∷ ys) h k = append-nil (change_line from x y) ∙ ap (λ (n : ℕ). change_line n x y) (sym (add-zero from))
take_more from (suc a) (x ∷ xs) (y ∷ ys) h k =
    ap (λ (l : List ℕ). change_line from x y ++ l) (take_more (suc from) a xs ys (omega arith) (omega arith))
    ∙ sym (append_assoc (change_line from x y) (change_lines (suc from) (take a xs) (take a ys)) (change_line (suc from + a) (get_or xs a 0) (get_or ys a 0)))
    ∙ ap (λ (n : ℕ). change_line from x y ++ change_lines (suc from) (take a xs) (take a ys) ++ change_line n (get_or xs a 0) (get_or ys a 0))
    (suc-add from a ∙ sym (add-suc from a))

take_size : (from a : ℕ) (xs ys : List ℕ) → length (change_lines from (take a xs) (take a ys)) ≤ length (change_lines from xs ys)
unfolding change_lines
take_size from zero xs ys = omega arith
take_size from (suc a) [] ys = omega arith
take_size from (suc a) (x ∷ xs) [] = omega arith
take_size from (suc a) (x ∷ xs) (y ∷ ys) =
    let rest = take_size (suc from) a xs ys in
    let part = length-append (change_line from x y) (change_lines (suc from) (take a xs) (take a ys)) in
    let whole = length-append (change_line from x y) (change_lines (suc from) xs ys) in
    omega arith

module _ (xs ys : List ℕ) (a : ℕ) (h : a < length xs) (k : a < length ys) where
  pub changes_more : change_lines 0 (take (a + 1) xs) (take (a + 1) ys) ≡ change_lines 0 (take a xs) (take a ys) ++ change_line a (get_or xs a 0) (get_or ys a 0)
  changes_more =
      ap (λ (n : ℕ). change_lines 0 (take n xs) (take n ys)) (add-one a)
      ∙ take_more 0 a xs ys h k
      ∙ ap (λ (n : ℕ). change_lines 0 (take a xs) (take a ys) ++ change_line n (get_or xs a 0) (get_or ys a 0)) (zero-add a)

  -- with room for all lines there is room for the next
  pub changes_room : length (change_lines 0 (take a xs) (take a ys)) + length (change_line a (get_or xs a 0) (get_or ys a 0)) ≤ length (change_lines 0 xs ys)
  changes_room =
      let whole = ap length changes_more ∙ length-append (change_lines 0 (take a xs) (take a ys)) (change_line a (get_or xs a 0) (get_or ys a 0)) in
      let part = take_size 0 (a + 1) xs ys in
      omega arith

pub changes_all : (xs ys : List ℕ) (a : ℕ) → length xs ≤ a → length ys ≤ a → change_lines 0 (take a xs) (take a ys) ≡ change_lines 0 xs ys
changes_all xs ys a h k = ap (λ (l : List ℕ). change_lines 0 l (take a ys)) (take_all a xs h) ∙ ap (change_lines 0 xs) (take_all a ys k)

-- ---- how many

pub unchanged : (from : ℕ) (xs : List ℕ) → length (change_lines from xs xs) ≡ 0
unfolding change_lines
unchanged from [] = refl
unchanged from (x ∷ xs) =
    ap (λ (t : Bool). length (pick t [] (word_line from x x) ++ change_lines (suc from) xs xs)) (eq-eqb x x refl) ∙ unchanged (suc from) xs

-- one store changes one word
pub stored_size : (from : ℕ) (xs ys : List ℕ) (k v : ℕ) → length (change_lines from xs (set ys k v)) ≤ length (change_lines from xs ys) + word_line_bytes
unfolding change_lines
stored_size from [] ys k v = omega arith
stored_size from (x ∷ xs) [] k v = omega arith
stored_size from (x ∷ xs) (y ∷ ys) zero v =
    let after = length-append (change_line from x v) (change_lines (suc from) xs ys) in
    let before = length-append (change_line from x y) (change_lines (suc from) xs ys) in
    let line = change_size from x v in
    omega arith
stored_size from (x ∷ xs) (y ∷ ys) (suc k) v =
    let rest = stored_size (suc from) xs ys k v in
    let after = length-append (change_line from x y) (change_lines (suc from) xs (set ys k v)) in
    let before = length-append (change_line from x y) (change_lines (suc from) xs ys) in
    omega arith
