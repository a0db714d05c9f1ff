-- A step of a stretch by its op: only op 6 can pause, so the code asks for a device's word there and nowhere else.
-- Assumes nothing.
use mathlib.Core.Path.{◌≡◌, refl, sym, ap, ◌∙◌}
use mathlib.Core.Bool.{Bool, true, false, not, ◌&&◌}
use Prim.Native.Nat.{ℕ, ◌/◌, ◌≤◌, ◌<◌}
use native.Mathlib.Omega.{arith}
use lib.Dec.{eqb, lit<}
use borrow.Author.Tests.{eqb-true, ne_eqb}
use Rattle.laws.proofs.Tests.{by_test, not_so}
use Rattle.laws.proofs.Joined.{and_right, either}
use Rattle.word.specs.Choice.{pick}
use Rattle.word.proofs.Choice.{case_false}
use Rattle.machine_state.specs.State.{State, word, with_pc}
use Rattle.machine_state.specs.Instruction.{op, is_device}
use Rattle.machine_state.specs.Interrupt.{interrupt_test, tested_if, ion, input_output}
use Rattle.machine_run.specs.Step.{halts, makes_test, step}
use Rattle.machine_run.specs.Stretch.{paused_at, input_output_or, advance}

-- ---- the devices' words are of op 6, and make a test

device_op : (i n : ℕ) → i / 8 ≡ n → 0o600 ≤ n → n < 0o700 → op i ≡ 6
device_op i n e h q = omega (arith, e, h, q)

device_other : (i n : ℕ) → i / 8 ≡ n → 0o600 < n → i ≡ ion → ⊥
device_other i n e h q = omega (arith, e, h, q)

by_device : (P : ℕ → Type 0) → (i : ℕ) → is_device i ≡ true → ((n : ℕ) → i / 8 ≡ n → 0o600 < n → n < 0o700 → P i) → P i
by_device P i e f =
    either (eqb (i / 8) 0o603) (eqb (i / 8) 0o604) e
    (λ t. f 0o603 (eqb-true (i / 8) 0o603 t) (lit< tt) (lit< tt))
    (λ t. f 0o604 (eqb-true (i / 8) 0o604 t) (lit< tt) (lit< tt))

pub device_six : (i : ℕ) → is_device i ≡ true → op i ≡ 6
device_six i e = by_device (λ (x : ℕ). op x ≡ 6) i e (λ n p h q. device_op i n p (omega (arith, h)) q)

pub device_not_ion : (i : ℕ) → is_device i ≡ true → eqb i ion ≡ false
device_not_ion i e = by_device (λ (x : ℕ). eqb x ion ≡ false) i e (λ n p h q. ne_eqb i ion (device_other i n p h))

pub device_tests : (i : ℕ) → is_device i ≡ true → makes_test i ≡ true
unfolding makes_test halts
device_tests i e =
    rw (device_not_ion i e, ap (λ (x : ℕ). eqb x 7) (device_six i e))

pub untested_plain : (i : ℕ) → makes_test i ≡ false → is_device i ≡ false
untested_plain i e = by_test (is_device i) (λ t. not_so (makes_test i) (device_tests i t) e) (λ t. t)

-- ---- op 6, and the other ops

pub advance_six : (devices : Bool) (s : State) (i n : ℕ) → i ≡ word s.pc s
    → tested_if interrupt_test (not (eqb i ion)) (input_output i (with_pc n s)) ≡ step s
    → input_output_or devices i s.pc (with_pc n s) ≡ advance devices s
unfolding advance input_output_or
advance_six devices s i n fetched e =
    ap (λ (x : State). pick (devices && is_device i) (paused_at s.pc s) x) e
    ∙ ap (λ (x : ℕ). pick (devices && is_device x) (paused_at s.pc s) (step s)) fetched

pub advance_rest : (devices : Bool) (s : State) (i : ℕ) → i ≡ word s.pc s → (op i ≡ 6 → ⊥) → step s ≡ advance devices s
unfolding advance
advance_rest devices s i fetched h =
    by_test (devices && is_device (word s.pc s))
    (λ t. absurd (h (ap op fetched ∙ device_six (word s.pc s) (and_right devices (is_device (word s.pc s)) t))))
    (λ t. sym (case_false (devices && is_device (word s.pc s)) (paused_at s.pc s) (step s) t))

-- without devices nothing pauses
pub advance_plain : (s : State) → advance false s ≡ step s
unfolding advance
advance_plain s = refl
