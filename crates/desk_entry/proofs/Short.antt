-- No fit line is longer than the scanner's buffer.
-- Assumes nothing.
use mathlib.Core.Path.{◌≡◌, refl, ap}
use mathlib.Core.Bool.{Bool, true, false, ◌&&◌}
use mathlib.Core.List.{List, [], ◌∷◌}
use Prim.Native.Nat.{ℕ, suc, ◌≤◌, ◌<◌}
use native.Mathlib.Omega.{arith}
use lib.Dec.{leb}
use lib.ListN.{length, get_or}
use borrow.Author.Tests.{leb-true}
use Rattle.machine_state.specs.Registers.{digits_of}
use Rattle.desk_registers.specs.Registers.{desk_registers, desk_widths}
use Rattle.desk_registers.proofs.Widths.{width_le}
use Rattle.characters.specs.Ascii.{ascii}
use Rattle.characters.specs.Characters.{same}
use Rattle.text_fields.specs.Fields.{field}
use Rattle.characters.specs.Named.{Named, find}
use Rattle.characters.specs.declared.Class.TheVariants.{Octal}
use Rattle.characters.proofs.Strings.{equal}
use Rattle.laws.proofs.Joined.{and_left, and_right}
use Rattle.laws.proofs.Tests.{by_test}
use Rattle.desk_entry.specs.Lines.{entry, is_fit}
use Rattle.desk_entry.specs.Sizes.{line_bytes}
use Rattle.desk_entry.specs.declared.Entry.{Entry}
use Rattle.std.specs.Prelude.{Option, Some, None}
use Rattle.desk_image.proofs.Digits.{digits_size}
use Rattle.desk_image.proofs.WordLine.{two_fields}
use Rattle.desk_entry.proofs.ByKind.{by_entry}

-- an entry that is unfit unless n is at most m
abbrev Within : ℕ → ℕ → Option Entry → Type 0
Within n m (Some e) = n ≤ m
Within n m None = Unit {0}

beyond : (n m : ℕ) (said : Option Entry) → Within n m said → m < n → is_fit said ≡ false
beyond n m (Some e) w h = absurd (omega arith)
beyond n m None w h = refl

-- whether no name of a table has more than n bytes
abbrev all_within : ℕ → List Named → Bool
all_within n [] = true
all_within n (e ∷ table) = leb (length e.name) n && all_within n table

-- a name that is found has no more either
found_within : (n : ℕ) (name : List ℕ) (table : List Named) → all_within n table ≡ true → find name table < length table → length name ≤ n
unfolding find
found_within n name [] all h = absurd (omega arith)
found_within n name (e ∷ table) all h =
    by_test (same e.name name)
    (λ t. rw (ap length (equal e.name name t)) at (leb-true (length e.name) n (and_left (leb (length e.name) n) (all_within n table) all)))
    (λ t.
    let later : find name (e ∷ table) ≡ suc (find name table) = rw (t, find) in
    found_within n name table (and_right (leb (length e.name) n) (all_within n table) all) (omega arith))

-- no register's name has more than 17 bytes (INTERRUPT.REQUEST), and no value beside it more than 6; 64 bytes have 255 with the spaces between them
entry_within : (line : List ℕ) → Within (length line) line_bytes (entry line)
entry_within line =
    let name = field 0 line in
    let value = field 1 line in
    let place = find name desk_registers in
    by_entry (Within (length line) line_bytes) tt line (λ t.
    let size = two_fields line t in
    record {
      word = λ a w. omega (arith, size, digits_size Octal 4 name a, digits_size Octal 4 value w);
      register = λ h d f. omega (
        arith,
        size,
        found_within 17 name desk_registers refl h,
        width_le place,
        digits_size Octal (digits_of (get_or desk_widths place 0)) value d,
      );
      budget = λ h few small. omega (arith, size, few, ap length (equal name (ascii "budget") h));
      input = λ h bytes. omega (arith, size, bytes.whole, bytes.few, ap length (equal name (ascii "input") h));
    })

-- the scanner need not keep more of a line
pub long_unfit : (line : List ℕ) → line_bytes < length line → is_fit (entry line) ≡ false
long_unfit line h = beyond (length line) line_bytes (entry line) (entry_within line) h
