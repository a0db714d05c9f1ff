-- What the code holds: input by the number of bytes read, output by the number printed.
-- Assumes nothing.
use mathlib.Core.Path.{◌≡◌, refl, sym, ap, ap₂, ◌∙◌}
use mathlib.Core.Bool.{Bool, true, false, not, ◌&&◌}
use mathlib.Core.List.{List, [], ◌∷◌, ◌++◌}
use Prim.Native.Nat.{ℕ, suc, ◌+◌, ◌-◌, ◌≤◌, ◌<◌}
use native.Mathlib.Numerals.{add-one}
use native.Mathlib.Omega.{arith}
use lib.Dec.{eqb, ltb}
use lib.ListN.{length, drop, take, get_or, set, drop_of_length-le, length-append, length-drop}
use lib.Seq.{drop-cons, take-append_seam, drop-drop, set-append_seam, append_snoc, length-take-le}
use borrow.Author.Tests.{ltb-true, ltb-false, ne_eqb}
use Rattle.laws.proofs.Tests.{by_test, by_case}
use Rattle.laws.proofs.Joined.{and_left, and_right}
use Rattle.word.specs.Choice.{on, pick}
use Rattle.word.proofs.Choice.{case_true, case_false, pick_either}
use Rattle.devices.specs.declared.Devices.{Devices}
use Rattle.devices.specs.Devices.{received, arrived, unread_after, risen, begun, written}
use Rattle.devices.specs.Session.{Exchange, exchanged}
use Rattle.devices.specs.Held.{BegunBy, PrintedBy, session}
use Rattle.devices.proofs.Starts.{with_key}

-- ---- input: `read` bytes of it have arrived

-- the byte at that place is the next, if there is one
received_at : (c : Devices) (input : List ℕ) (read : ℕ)
    → received c (drop read input) ≡ pick (ltb read (length input)) (with_key (get_or input read 0) 1 c) c
received_at c input read =
    by_test (ltb read (length input))
    (λ t. ap (received c) (drop-cons input read 0 (ltb-true read (length input) t))
    ∙ sym (case_true (ltb read (length input)) (with_key (get_or input read 0) 1 c) c t))
    (λ t. ap (received c) (drop_of_length-le input (ltb-false read (length input) t))
    ∙ sym (case_false (ltb read (length input)) (with_key (get_or input read 0) 1 c) c t))

arrived_at : (c : Devices) (input : List ℕ) (read : ℕ)
    → arrived c (drop read input) ≡ pick (on c.keyboard) c (pick (ltb read (length input)) (with_key (get_or input read 0) 1 c) c)
unfolding arrived
arrived_at c input read = ap (pick (on c.keyboard) c) (received_at c input read)

-- the bytes read after a start
abbrev pub read_after : Devices → List ℕ → ℕ → ℕ
read_after c input read = pick (on c.keyboard) read (pick (ltb read (length input)) (read + 1) read)

rest_at : (input : List ℕ) (read : ℕ) → drop 1 (drop read input) ≡ drop (pick (ltb read (length input)) (read + 1) read) input
rest_at input read =
    by_test (ltb read (length input))
    (λ t. drop-drop 1 read input ∙ ap (λ (n : ℕ). drop n input) (sym (case_true (ltb read (length input)) (read + 1) read t)))
    (λ t. let none = drop_of_length-le input (ltb-false read (length input) t) in
    ap (drop 1) none ∙ sym none ∙ ap (λ (n : ℕ). drop n input) (sym (case_false (ltb read (length input)) (read + 1) read t)))

pub unread_at : (c : Devices) (input : List ℕ) (read : ℕ) → unread_after c (drop read input) ≡ drop (read_after c input read) input
unfolding unread_after
unread_at c input read = go (on c.keyboard)
  where
    go : (b : Bool)
        → pick b (drop read input) (drop 1 (drop read input)) ≡ drop (pick b read (pick (ltb read (length input)) (read + 1) read)) input
    go true = refl
    go false = rest_at input read

pub read_within : (c : Devices) (input : List ℕ) (read : ℕ) → read ≤ length input → read_after c input read ≤ length input
read_within c input read h =
    pick_either (λ (n : ℕ). n ≤ length input) (on c.keyboard) h
    (by_case (λ (n : ℕ). n ≤ length input) (ltb read (length input)) (λ t. omega (arith, ltb-true read (length input) t)) (λ t. h))

-- ---- the start, as the code makes it

-- a byte arrives
pub begun_new : (c d : Devices) (input : List ℕ) (read : ℕ) → eqb c.keyboard 0 && ltb read (length input) ≡ true
    → d ≡ risen (with_key (get_or input read 0) 1 c) → BegunBy c input read d (read + 1)
unfolding begun
begun_new c d input read e r =
    let off : on c.keyboard ≡ false = ap not (and_left (eqb c.keyboard 0) (ltb read (length input)) e) in
    let here = and_right (eqb c.keyboard 0) (ltb read (length input)) e in record {
      devices =
          r
          ∙ ap risen
          (sym (arrived_at c input read
          ∙ case_false (on c.keyboard) c _ off
          ∙ case_true (ltb read (length input)) (with_key (get_or input read 0) 1 c) c here));
      unread =
          ap (λ (n : ℕ). drop n input)
          (sym (case_false (on c.keyboard) read (pick (ltb read (length input)) (read + 1) read) off
          ∙ case_true (ltb read (length input)) (read + 1) read here))
          ∙ sym (unread_at c input read);
      within = let h = ltb-true read (length input) here in omega (arith, h);
    }

-- none does: the flag is up, or nothing is left
stays : {A : Type 0} (off here : Bool) (x y : A) → off && here ≡ false → pick (not off) y (pick here x y) ≡ y
stays true here x y e = case_false here x y e
stays false here x y e = refl

pub begun_still : (c d : Devices) (input : List ℕ) (read : ℕ) → eqb c.keyboard 0 && ltb read (length input) ≡ false → read ≤ length input
    → d ≡ risen c → BegunBy c input read d read
unfolding begun
begun_still c d input read h w r =
    let off = eqb c.keyboard 0 in
    let here = ltb read (length input) in record {
      devices = r ∙ ap risen (sym (arrived_at c input read ∙ stays off here (with_key (get_or input read 0) 1 c) c h));
      unread = ap (λ (n : ℕ). drop n input) (sym (stays off here (read + 1) read h)) ∙ sym (unread_at c input read);
      within = w;
    }

-- ---- the print, as the code makes it

pub prints : (c : Devices) (output after : List ℕ) (printed : ℕ) → (c.mark ≡ 0 → ⊥) → after ≡ set output printed c.print
    → PrintedBy c output printed after (printed + 1)
prints c output after printed h e =
    let up : on c.mark ≡ true = ap not (ne_eqb c.mark 0 h) in record {
      buffer = e ∙ sym (case_true (on c.mark) (set output printed c.print) output up);
      count = sym (case_true (on c.mark) (printed + 1) printed up);
    }

pub prints_not : (c : Devices) (output : List ℕ) (printed : ℕ) → c.mark ≡ 0 → PrintedBy c output printed output printed
prints_not c output printed h =
    let down : on c.mark ≡ false = ap on h in record {
      buffer = sym (case_false (on c.mark) (set output printed c.print) output down);
      count = sym (case_false (on c.mark) (printed + 1) printed down);
    }

-- ---- output: p has been written at its front

-- one byte more, stored at the next place
pub print_at : (p output : List ℕ) (b : ℕ) → length p < length output → set (written p output) (length p) b ≡ written (p ++ (b ∷ [])) output
unfolding written
print_at p output b h =
    let n : length (p ++ (b ∷ [])) ≡ suc (length p) = length-append p (b ∷ []) ∙ add-one (length p) in
    ap (λ (r : List ℕ). set (p ++ r) (length p) b) (drop-cons output (length p) 0 h)
    ∙ set-append_seam p (get_or output (length p) 0) (drop (suc (length p)) output) b
    ∙ sym (append_snoc p b (drop (suc (length p)) output))
    ∙ ap (λ (k : ℕ). p ++ (b ∷ []) ++ drop k output) (sym n)

-- what was printed is the front of the buffer
pub printed_at : (p output : List ℕ) → take (length p) (written p output) ≡ p
unfolding written
printed_at p output = take-append_seam p (drop (length p) output)

-- ---- what the numbers say of a call, at its end

back : (n k : ℕ) → k ≤ n → n - (n - k) ≡ k
back n k h = omega (arith, h)

pub exchange_is : {A : Type 0} (x : A) (read printed : ℕ) (input output after : List ℕ) → read ≤ length input → printed ≤ length after
    → after ≡ written (take printed after) output
    → ◌≡◌ {A = Exchange} (record { read = read; printed = printed; output = after }) (exchanged input output (session x read printed input after))
exchange_is x read printed input output after h q e =
    ap₂ (λ (n m : ℕ). record { read = n; printed = m; output = after })
    (sym (ap (λ (n : ℕ). length input - n) (length-drop read input) ∙ back (length input) read h))
    (sym (length-take-le printed after q))
    ∙ ap (λ (l : List ℕ). record { read = length input - length (drop read input); printed = length (take printed after); output = l }) e
