-- The laws of a line's fields within the text: where the second field stands, and how long fields are together.
-- Assumes nothing.
use mathlib.Core.Path.{◌≡◌, sym, ap, ◌∙◌}
use mathlib.Core.Bool.{true, ◌&&◌}
use mathlib.Core.List.{List}
use Prim.Native.Nat.{ℕ, ◌+◌, ◌≤◌, ◌<◌}
use native.Mathlib.Omega.{arith}
use lib.Dec.{ltb}
use lib.ListN.{length, take, drop, length-drop}
use lib.Seq.{drop-drop}
use borrow.Author.Tests.{ltb-true}
use Rattle.characters.specs.Characters.{same}
use Rattle.characters.specs.Ascii.{tab}
use Rattle.text_fields.specs.Fields.{until, before, after, field, has_fields}
use Rattle.characters.specs.declared.Class.TheVariants.{Other}
use Rattle.characters.proofs.Runs.{run_le}
use Rattle.text_fields.proofs.Lines.{before_length, few_fields, next_field, first_field}
use Rattle.characters.proofs.Strings.{equal, inner}
use Rattle.laws.proofs.Joined.{and_right}
use Rattle.laws.proofs.Tests.{by_test}

-- a line of several fields has a TAB
has_tab : (n : ℕ) (s : List ℕ) → 1 < n → has_fields n s ≡ true → until tab s < length s
has_tab n s h e =
    by_test (ltb 0 (until tab s) && ltb (until tab s) (length s))
    (λ t. ltb-true (until tab s) (length s) (and_right (ltb 0 (until tab s)) (ltb (until tab s) (length s)) t))
    (λ t. absurd (mathlib.Core.Bool.false≢true (sym (few_fields n s h t) ∙ e)))

-- the fields of a line, from the left
field_0 : (s : List ℕ) → field 0 s ≡ before tab s
field_0 s = first_field 0 s (omega arith)

field_1 : (s : List ℕ) → field 1 s ≡ before tab (after tab s)
field_1 s = next_field 1 s (omega arith) ∙ field_0 (after tab s)

field_2 : (s : List ℕ) → field 2 s ≡ before tab (after tab (after tab s))
field_2 s = next_field 2 s (omega arith) ∙ field_1 (after tab s)

field_3 : (s : List ℕ) → field 3 s ≡ before tab (after tab (after tab (after tab s)))
field_3 s = next_field 3 s (omega arith) ∙ field_2 (after tab s)

-- a field and what follows it
before_after : (s : List ℕ) → length (before tab s) + length (after tab s) ≤ length s
before_after s = omega (arith, before_length tab s, run_le (Other tab) s, length-drop (until tab s + 1) s)

-- what follows a byte is no longer
pub after_le : (b : ℕ) (s : List ℕ) → length (after b s) ≤ length s
after_le b s = omega (arith, length-drop (until b s + 1) s)

-- how long fields are, alone and with what follows
module _ (s f : List ℕ) where
  pub field_1_rest_le : f ≡ field 1 s → length f + length (after tab (after tab s)) ≤ length s
  field_1_rest_le e = omega (arith, ap length (e ∙ field_1 s), before_after (after tab s), after_le tab s)

  pub field_1_le : f ≡ field 1 s → length f ≤ length s
  field_1_le e = omega (arith, field_1_rest_le e)

  pub field_2_le : f ≡ field 2 s → length f ≤ length (after tab (after tab s))
  field_2_le e = omega (arith, ap length (e ∙ field_2 s), before_after (after tab (after tab s)))

  pub fields_2_3_le : (g : List ℕ) → f ≡ field 2 s → g ≡ field 3 s → length f + length g ≤ length (after tab (after tab s))
  fields_2_3_le g e i =
      omega (arith, ap length (e ∙ field_2 s), ap length (i ∙ field_3 s), before_after (after tab (after tab s)), before_after (after tab (after tab (after tab s))))

-- the second field of a line that stands at a place in the text, behind a first word
module _ (text s w : List ℕ) (n place : ℕ) (h : 1 < n) (fields : has_fields n s ≡ true) (e : same (field 0 s) w ≡ true)
    (at : s ≡ take (length s) (drop place text)) where
  -- where it begins in the line, and its size
  abbrev start : ℕ
  start = length w + 1

  abbrev size : ℕ
  size = until tab (after tab s)

  word_length : until tab s ≡ length w
  word_length = sym (before_length tab s) ∙ sym (ap length (field_0 s)) ∙ ap length (equal (field 0 s) w e)

  rest_is : after tab s ≡ drop start s
  rest_is = ap (λ (i : ℕ). drop (i + 1) s) word_length

  fits : start + size ≤ length s
  fits =
      omega (arith, run_le (Other tab) (after tab s), ap length rest_is, length-drop start s, has_tab n s h fields, word_length)

  found : field 1 s ≡ take size (drop (place + start) text)
  found =
      field_1 s
      ∙ ap (take size) rest_is
      ∙ ap (λ (l : List ℕ). take size (drop start l)) at
      ∙ inner (drop place text) size start (length s) fits
      ∙ ap (take size) (drop-drop start place text)

  size_is : length (field 1 s) ≡ size
  size_is = ap length (field_1 s) ∙ before_length tab (after tab s)

  -- a list that is the second field: where it stands in the text, and that it ends there where the line does or sooner
  pub stands : (f : List ℕ) → f ≡ field 1 s → {most : ℕ} → place + length s ≤ most
      → (f ≡ take (length f) (drop (place + start) text)) × (place + start + length f ≤ most)
  stands f i l = (
    i ∙ found ∙ ap (λ (j : ℕ). take j (drop (place + start) text)) (sym (ap length i ∙ size_is)),
    omega (arith, fits, ap length i ∙ size_is, l),
  )
