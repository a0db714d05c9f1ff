-- How many bytes a register's line has, how many a draft has with it, and how many the lines of the machine registers, by their table, and of the four working registers have.
-- Assumes nothing.
use mathlib.Core.Path.{◌≡◌, refl, sym, ap, ap₂, ◌∙◌}
use mathlib.Core.Bool.{Bool, true, false}
use mathlib.Core.List.{List, [], ◌∷◌, ◌++◌, append-nil, append_assoc}
use Prim.Native.Nat.{ℕ, zero, suc, ◌+◌, ◌≤◌, ◌<◌}
use native.Mathlib.Numerals.{add-one}
use native.Mathlib.Omega.{arith}
use lib.ListN.{length, get_or, take, drop, length-append, length-drop}
use lib.Dec.{lit≤}
use lib.Seq.{drop-cons}
use Rattle.devices.specs.declared.Devices.{Devices}
use Rattle.devices.specs.Devices.{device_values}
use Rattle.machine_state.specs.declared.Machine.{Machine}
use Rattle.machine_state.specs.Registers.{digits_of, values}
use Rattle.desk_registers.specs.Registers.{desk_registers}
use Rattle.characters.specs.Named.{Named}
use Rattle.characters.specs.Ascii.{ascii, tab, line_feed}
use Rattle.page.specs.Text.{octal}
use Rattle.page.proofs.Numbers.{octal_length}
use Rattle.page.proofs.Writing.{drafted_size}
use Rattle.text_limits.specs.Limits.{most_registers}
use Rattle.text_declaration.specs.Rows.{Description}
use Rattle.shipped_rows.specs.Variant.{Variant, plain, devices, registers_of, values_of}
use Rattle.shipped_rows.proofs.Accepted.{shipped_is}
use Rattle.desk_run_lines.specs.Registers.{register_line, register_lines, variant_of, working_registers, working_values}
use Rattle.desk_run_lines.specs.Sizes.{register_lines_bytes, working_lines_bytes}

register_size : (name : List ℕ) (n value : ℕ) → length (name ++ tab ∷ octal n value ++ line_feed ∷ []) ≡ length name + n + 2
register_size name n value = let digits = octal_length n value in simp length-append (omega arith)

pub register_end : (before name : List ℕ) (n value : ℕ) {after : List ℕ} → after ≡ before ++ (name ++ tab ∷ octal n value ++ line_feed ∷ [])
    → length after ≡ length before + (length name + n + 2)
register_end before name n value w =
    drafted_size before (name ++ tab ∷ octal n value ++ line_feed ∷ []) w ∙ ap (λ (k : ℕ). length before + k) (register_size name n value)

-- the bytes of a register's line by the table, and of the lines of all its registers
abbrev pub line_size : Named → ℕ
line_size r = length r.name + digits_of r.number + 2

abbrev pub lines_size : List Named → ℕ
lines_size [] = 0
lines_size (r ∷ rs) = line_size r + lines_size rs

pub lines_size_lem : (rs : List Named) (vs : List ℕ) → length rs ≤ length vs → length (register_lines rs vs) ≡ lines_size rs
lines_size_lem [] vs h = refl
lines_size_lem (r ∷ rs) [] h = absurd (omega arith)
lines_size_lem (r ∷ rs) (v ∷ vs) h =
    length-append (register_line r v) (register_lines rs vs)
    ∙ ap₂ ◌+◌ (register_size r.name (digits_of r.number) v) (lines_size_lem rs vs (omega arith))

pub registers_size : (v : Variant) (m : Machine) (c : Devices) → length (register_lines (registers_of v) (values_of v m c)) ≤ register_lines_bytes
registers_size plain m c = omega (arith, lines_size_lem (registers_of plain) (values_of plain m c) (lit≤ tt))
registers_size devices m c = omega (arith, lines_size_lem (registers_of devices) (values_of devices m c) (lit≤ tt))

-- with the lines of the first k registers written there is room for the next
pub lines_room : (rs : List Named) (z : Named) (k : ℕ) → k < length rs → lines_size (take k rs) + line_size (get_or rs k z) ≤ lines_size rs
lines_room [] z k h = absurd (omega arith)
lines_room (r ∷ rs) z zero h = omega arith
lines_room (r ∷ rs) z (suc k) h = omega (arith, lines_room rs z k (omega arith))

-- one line more
next_line_lem : (rs : List Named) (vs : List ℕ) (z : Named) (k : ℕ) → k < length rs → k < length vs
    → register_lines (take (suc k) rs) (take (suc k) vs) ≡ register_lines (take k rs) (take k vs) ++ register_line (get_or rs k z) (get_or vs k 0)
next_line_lem [] vs z k h q = absurd (omega arith)
next_line_lem (r ∷ rs) [] z k h q = absurd (omega arith)
next_line_lem (r ∷ rs) (v ∷ vs) z zero h q = append-nil (register_line r v)
next_line_lem (r ∷ rs) (v ∷ vs) z (suc k) h q =
    ap (λ (l : List ℕ). register_line r v ++ l) (next_line_lem rs vs z k (omega arith) (omega arith))
    ∙ sym (append_assoc (register_line r v) (register_lines (take k rs) (take k vs)) (register_line (get_or rs k z) (get_or vs k 0)))

pub lines_more : (rs : List Named) (vs : List ℕ) (z : Named) (k : ℕ) → k < length rs → k < length vs
    → register_lines (take (k + 1) rs) (take (k + 1) vs) ≡ register_lines (take k rs) (take k vs) ++ register_line (get_or rs k z) (get_or vs k 0)
lines_more rs vs z k h q = rw (add-one k) (next_line_lem rs vs z k h q)

-- the machine registers are the first of the desk's, and so are their values
pub registers_within : (d : Bool) → length (registers_of (variant_of d)) ≤ length desk_registers
registers_within true = lit≤ tt
registers_within false = lit≤ tt

pub registers_first : (d : Bool) (m : Machine) (c : Devices) →
    let n = length (registers_of (variant_of d)) in
    register_lines (take n desk_registers) (take n (values m ++ device_values c)) ≡ register_lines (registers_of (variant_of d)) (values_of (variant_of d) m c)
registers_first true m c = refl
registers_first false m c = refl

-- "A shipped description's registers that the emulator lacks": i, last.pc, eadd, skip
abbrev working : List Named
working =
    record { name = ascii "i"; number = 12 } ∷ record { name = ascii "last.pc"; number = 12 }
    ∷ record { name = ascii "eadd"; number = 12 } ∷ record { name = ascii "skip"; number = 1 } ∷ []

pub working_registers_lem : (v : Variant) → working_registers v ≡ working
working_registers_lem plain = ap (λ (d : Description). drop (length (registers_of plain)) d.registers) (shipped_is plain)
working_registers_lem devices = ap (λ (d : Description). drop (length (registers_of devices)) d.registers) (shipped_is devices)

-- they stand behind the machine's
pub working_values_lem : (v : Variant) (n : ℕ) (values : List ℕ) → n ≡ length (registers_of v) → n + 4 ≤ length values
    → working_values v values ≡ get_or values n 0 ∷ get_or values (n + 1) 0 ∷ get_or values (n + 2) 0 ∷ get_or values (n + 3) 0 ∷ drop (n + 4) values
working_values_lem v n values e h =
    let one : n + 1 ≡ suc n = omega arith in
    let two : n + 2 ≡ suc (suc n) = omega arith in
    let three : n + 3 ≡ suc (suc (suc n)) = omega arith in
    let four : n + 4 ≡ suc (suc (suc (suc n))) = omega arith in
    sym (ap (λ (k : ℕ). drop k values) e)
    ∙ rw (one, two, three, four)
    (drop-cons values n 0 (omega arith)
    ∙ ap (λ (l : List ℕ). get_or values n 0 ∷ l) (drop-cons values (suc n) 0 (omega arith)
    ∙ ap (λ (l : List ℕ). get_or values (suc n) 0 ∷ l) (drop-cons values (suc (suc n)) 0 (omega arith)
    ∙ ap (λ (l : List ℕ). get_or values (suc (suc n)) 0 ∷ l) (drop-cons values (suc (suc (suc n))) 0 (omega arith)))))

pub working_size : (v : Variant) (values : List ℕ) → length values ≡ most_registers → length (register_lines (working_registers v) (working_values v values)) ≡ working_lines_bytes
working_size v values h =
    ap (λ (rs : List Named). length (register_lines rs (working_values v values))) (working_registers_lem v)
    ∙ lines_size_lem working (working_values v values) (go v)
  where
    go : (w : Variant) → 4 ≤ length (working_values w values)
    go plain = omega (arith, h, length-drop 6 values)
    go devices = omega (arith, h, length-drop 11 values)
