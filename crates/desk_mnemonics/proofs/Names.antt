-- Names one after the other: what a loop over the table has written, behind which mark the next name stands, and how many bytes a mnemonic has.
-- Assumes nothing.
use mathlib.Core.Path.{◌≡◌, refl, sym, ap, ◌∙◌}
use mathlib.Core.Bool.{Bool, true, false, ◌&&◌}
use mathlib.Core.List.{List, [], ◌∷◌, ◌++◌, append-nil, append_assoc}
use Prim.Native.Nat.{ℕ, ◌+◌, ◌*◌, ◌≤◌, ◌<◌}
use native.Mathlib.Numerals.{add-one}
use native.Mathlib.Omega.{arith}
use lib.Dec.{eqb, leb, ltb}
use lib.ListN.{length, get_or, take, length-append}
use lib.Seq.{take-suc}
use borrow.Author.Tests.{leb-true}
use Rattle.laws.proofs.Joined.{and_left, and_right}
use Rattle.word.specs.Choice.{on, pick}
use Rattle.machine_state.specs.Instruction.{op, ib}
use Rattle.machine_reference.specs.Address.{first_address}
use Rattle.characters.specs.Ascii.{ascii, tab}
use Rattle.page.specs.Text.{octal}
use Rattle.page.proofs.Numbers.{octal_length}
use Rattle.desk_mnemonics.specs.declared.Name.{Name}
use Rattle.desk_mnemonics.specs.Mnemonics.{names, device_names, handbook, is_named, names_of, unnamed, space, spaced, parted, operand, mnemonic}
use Rattle.desk_mnemonics.specs.Sizes.{name_bytes, names_bytes, operand_bytes, mnemonic_bytes}

-- ---- the table

pub names_count : length (handbook true) ≡ 36
unfolding names device_names
names_count = refl

pub plain_count : length (handbook false) ≡ 28
unfolding names
plain_count = refl

pub names_within : (devices : Bool) → length (handbook devices) ≤ 36
names_within true = omega (arith, names_count)
names_within false = omega (arith, plain_count)

-- whether no name has more than n letters
abbrev all_within : ℕ → List Name → Bool
all_within n [] = true
all_within n (m ∷ ns) = leb (length m.letters) n && all_within n ns

three_letters : (devices : Bool) → all_within 3 (handbook devices) ≡ true
unfolding names device_names
three_letters true = refl
three_letters false = refl

-- ---- names so far

-- the first behind a TAB, the others behind a space
abbrev pub begun : List (List ℕ) → List ℕ
begun [] = []
begun (w ∷ ws) = tab ∷ w ++ spaced ws

-- the mark that the next one stands behind
abbrev pub mark_of : List (List ℕ) → ℕ
mark_of [] = tab
mark_of (w ∷ ws) = space

spaced_snoc : (ws : List (List ℕ)) (w : List ℕ) → spaced (ws ++ w ∷ []) ≡ spaced ws ++ space ∷ w
unfolding spaced
spaced_snoc [] w = ap (λ (l : List ℕ). space ∷ l) (append-nil w)
spaced_snoc (v ∷ ws) w = ap (λ (l : List ℕ). space ∷ v ++ l) (spaced_snoc ws w) ∙ sym (append_assoc (space ∷ v) (spaced ws) (space ∷ w))

begun_snoc : (ws : List (List ℕ)) (w : List ℕ) → begun (ws ++ w ∷ []) ≡ begun ws ++ mark_of ws ∷ w
unfolding spaced
begun_snoc [] w = ap (λ (l : List ℕ). tab ∷ l) (append-nil w)
begun_snoc (v ∷ ws) w = ap (λ (l : List ℕ). tab ∷ v ++ l) (spaced_snoc ws w) ∙ sym (append_assoc (tab ∷ v) (spaced ws) (space ∷ w))

-- a name more, or none
begun_more : (t : Bool) (ws : List (List ℕ)) (w : List ℕ) → begun (ws ++ pick t (w ∷ []) []) ≡ begun ws ++ pick t (mark_of ws ∷ w) []
begun_more true ws w = begun_snoc ws w
begun_more false ws w = ap begun (append-nil ws) ∙ sym (append-nil (begun ws))

mark_more : (t : Bool) (ws : List (List ℕ)) (w : List ℕ) → pick t space (mark_of ws) ≡ mark_of (ws ++ pick t (w ∷ []) [])
mark_more true [] w = refl
mark_more true (v ∷ ws) w = refl
mark_more false ws w = ap mark_of (sym (append-nil ws))

names_snoc : (i : ℕ) (ns : List Name) (n : Name) → names_of i (ns ++ n ∷ []) ≡ names_of i ns ++ pick (is_named i n) (n.letters ∷ []) []
unfolding names_of
names_snoc i [] n = append-nil (pick (is_named i n) (n.letters ∷ []) [])
names_snoc i (m ∷ ns) n =
    ap (λ (l : List (List ℕ)). pick (is_named i m) (m.letters ∷ []) [] ++ l) (names_snoc i ns n)
    ∙ sym (append_assoc (pick (is_named i m) (m.letters ∷ []) []) (names_of i ns) (pick (is_named i n) (n.letters ∷ []) []))

-- the names among the first k of a table
abbrev pub found : ℕ → List Name → ℕ → List (List ℕ)
found i ns k = names_of i (take k ns)

module _ (i : ℕ) (ns : List Name) (k : ℕ) (d : Name) (h : k < length ns) where
  abbrev last : Name
  last = get_or ns k d

  found_more : found i ns (k + 1) ≡ found i ns k ++ pick (is_named i last) (last.letters ∷ []) []
  found_more = ap (found i ns) (add-one k) ∙ ap (names_of i) (take-suc ns k d h) ∙ names_snoc i (take k ns) last

  pub text_more : (mark : ℕ) → mark ≡ mark_of (found i ns k) → begun (found i ns (k + 1)) ≡ begun (found i ns k) ++ pick (is_named i last) (mark ∷ last.letters) []
  text_more mark e =
      ap begun found_more
      ∙ begun_more (is_named i last) (found i ns k) last.letters
      ∙ ap (λ (b : ℕ). begun (found i ns k) ++ pick (is_named i last) (b ∷ last.letters) []) (sym e)

  pub marks_more : (mark : ℕ) → mark ≡ mark_of (found i ns k) → pick (is_named i last) space mark ≡ mark_of (found i ns (k + 1))
  marks_more mark e =
      ap (λ (b : ℕ). pick (is_named i last) space b) e
      ∙ mark_more (is_named i last) (found i ns k) last.letters
      ∙ ap mark_of (sym found_more)

-- with none the mark is still TAB, and what stands for none follows
pub none_named : (none : List ℕ) (ws : List (List ℕ)) → mark_of ws ≡ tab → begun ws ++ tab ∷ none ≡ tab ∷ parted none ws
none_named none [] e = refl
none_named none (w ∷ ws) e = absurd (omega arith)

pub some_named : (none : List ℕ) (ws : List (List ℕ)) → (mark_of ws ≡ tab → ⊥) → begun ws ≡ tab ∷ parted none ws
some_named none [] h = absurd (h refl)
some_named none (w ∷ ws) h = refl

-- ---- sizes

pub named_size : (t : Bool) (b : ℕ) (w : List ℕ) → length w ≤ 3 → length (pick t (b ∷ w) []) ≤ name_bytes
named_size true b w h = omega arith
named_size false b w h = omega arith

pub mark_size : (i : ℕ) → length (pick (on (ib i)) (ascii " I ") (ascii " ")) ≤ 3
mark_size i = go (on (ib i))
  where
    go : (t : Bool) → length (pick t (ascii " I ") (ascii " ")) ≤ 3
    go true = omega arith
    go false = omega arith

operand_size : (i last : ℕ) → length (operand i last) ≤ operand_bytes
operand_size i last =
    let mark = mark_size i in
    let digits = octal_length 4 (first_address i last) in
    let whole = length-append (pick (on (ib i)) (ascii " I ") (ascii " ")) (octal 4 (first_address i last)) in
    omega arith

picked_size : (t : Bool) (l : List ℕ) (n : ℕ) → length l ≤ n → length (pick t l []) ≤ n
picked_size true l n h = h
picked_size false l n h = omega arith

-- each name of a table behind its space
spaced_size : (i : ℕ) (ns : List Name) → all_within 3 ns ≡ true → length (spaced (names_of i ns)) ≤ name_bytes * length ns
unfolding names_of spaced
spaced_size i [] t = omega arith
spaced_size i (m ∷ ns) t =
    go (is_named i m)
    (leb-true (length m.letters) 3 (and_left (leb (length m.letters) 3) (all_within 3 ns) t))
    (spaced_size i ns (and_right (leb (length m.letters) 3) (all_within 3 ns) t))
  where
    go : (u : Bool) → length m.letters ≤ 3 → length (spaced (names_of i ns)) ≤ name_bytes * length ns
        → length (spaced (pick u (m.letters ∷ []) [] ++ names_of i ns)) ≤ name_bytes * length (m ∷ ns)
    go true h l = unfold spaced in (let whole = length-append m.letters (spaced (names_of i ns)) in omega arith)
    go false h l = omega arith

parted_size : (none : List ℕ) (ws : List (List ℕ)) → length none ≤ 3 → length (tab ∷ parted none ws) ≤ 4 + length (spaced ws)
unfolding spaced
parted_size none [] h = omega arith
parted_size none (w ∷ ws) h = omega arith

unnamed_size : (t : Bool) → length (pick t (ascii "IOT") (ascii "NOP")) ≤ 3
unnamed_size true = omega arith
unnamed_size false = omega arith

pub names_size : (devices : Bool) (i : ℕ) → length (tab ∷ parted (unnamed i) (names_of i (handbook devices))) ≤ names_bytes
names_size devices i =
    let behind = spaced_size i (handbook devices) (three_letters devices) in
    let first = parted_size (unnamed i) (names_of i (handbook devices)) (unnamed_size (eqb (op i) 6)) in
    omega (arith, names_within devices)

pub mnemonic_size : (devices : Bool) (i last : ℕ) → length (tab ∷ mnemonic devices i last) ≤ mnemonic_bytes
unfolding mnemonic
mnemonic_size devices i last =
    let first = names_size devices i in
    let then = picked_size (ltb (op i) 6) (operand i last) operand_bytes (operand_size i last) in
    let whole = length-append (tab ∷ parted (unnamed i) (names_of i (handbook devices))) (pick (ltb (op i) 6) (operand i last) []) in
    omega arith
