-- The rows of keyboard and teleprinter: they do what a word of theirs does, and nothing at another.
-- Assumes nothing.
use mathlib.Core.Path.{◌≡◌, refl, ap, ap₂}
use mathlib.Core.Bool.{false, ◌||◌}
use mathlib.Core.List.{List}
use Prim.Native.Nat.{ℕ}
use native.Mathlib.Nat.{mod-eq_of_lt}
use native.Mathlib.Omega.{arith}
use lib.Bits.{bit_and, bit_or}
use lib.Dec.{eqb}
use Rattle.word.specs.Choice.{on, pick, bit}
use Rattle.word.specs.Word.{next}
use Rattle.devices.specs.declared.Devices.{Devices}
use Rattle.machine_state.specs.State.{State, with_lac, with_pc, with_ac}
use Rattle.machine_console.specs.Instructions.{skips_on_flag, kcc, krs, tcf, tpc, ac_byte, with_ac_byte, lac_after, devices_after, state_after}
use Rattle.text_declaration.specs.Rows.{Row}
use Rattle.rows_value.specs.Value as rows
use Rattle.shipped_rows.specs.Variant.{Variant, plain, devices}
use Rattle.shipped_rows.proofs.Tree.{rows·devices}
use Rattle.shipped_rows.proofs.Places.{Work, in_places}
use Rattle.shipped_rows.proofs.Ends.{Ends, seen, moved}
use Rattle.shipped_rows.proofs.Bits.{of_test, of_bit, flag_and, flag_or, on_flag}
use Rattle.shipped_rows.proofs.DeviceWords.{devices_stay, state_stays, prints_found}
use Rattle.devices.proofs.Starts.{Flags}
use Rattle.shipped_rows.proofs.Machines.{for_devices, FlagsOf}

-- a word that is one of two, as the rows test it
one_of : (i m n : ℕ) → on (bit_or (bit (eqb i m)) (bit (eqb i n))) ≡ (eqb i m || eqb i n)
one_of i m n = on_flag (flag_or (of_test (eqb i m)) (of_test (eqb i n)))

module _ (c : Devices) (o : State) (w : Work) (f : Flags c) where
  abbrev i : ℕ
  i = w.i

  -- PC, LAC with AC cleared, and LAC, as the rows leave them
  abbrev counted : State
  counted = with_pc (pick (skips_on_flag i c) (next o.pc) o.pc) o

  abbrev cleared : ℕ
  cleared = pick (kcc i) (with_ac o.lac 0) o.lac

  abbrev lac : ℕ
  lac = lac_after i c o.lac

  -- devices with other flags, byte and mark
  abbrev with : ℕ → ℕ → ℕ → ℕ → Devices
  with key flag byte mark = record { key = c.key; keyboard = key; printer = flag; print = byte; mark = mark }

  abbrev keyboard : ℕ
  keyboard = pick (kcc i) 0 c.keyboard

  abbrev printer : ℕ
  printer = pick (tcf i) 0 c.printer

  -- a state with other devices, once LAC is what it comes to
  abbrev left : ℕ → ℕ → ℕ → rows.State
  left flag byte mark = in_places devices (with keyboard flag byte mark) (with_lac lac counted) w

  skips : on (bit_or (bit_and (bit (eqb i 0o6031)) c.keyboard) (bit_and (bit (eqb i 0o6041)) c.printer)) ≡ skips_on_flag i c
  skips =
      on_flag (flag_or
      (flag_and (of_test (eqb i 0o6031)) (of_bit c.keyboard f.keyboard))
      (flag_and (of_test (eqb i 0o6041)) (of_bit c.printer f.printer)))

  -- what is left to do after a word of the devices is left to do after their rows
  pub ends_words : {e : Devices} {p : State} {rs : List Row} → Ends devices e rs (in_places devices (devices_after i o.lac c) (state_after i c o) w) p
      → Ends devices e (rows·devices devices rs) (in_places devices c o w) p
  unfolding state_after devices_after lac_after
  ends_words r =
      moved (λ (x : ℕ). in_places devices c (with_pc x o) w) o.pc (next o.pc) (skips_on_flag i c) skips refl
      (moved (λ (x : ℕ). in_places devices c (with_lac x counted) w) o.lac (with_ac o.lac 0) (kcc i) (one_of i 0o6032 0o6036) refl
      (moved (λ (x : ℕ). in_places devices (with x c.printer c.print c.mark) (with_lac cleared counted) w) c.keyboard 0 (kcc i) (one_of i 0o6032 0o6036) refl
      (moved (λ (x : ℕ). in_places devices (with keyboard c.printer c.print c.mark) (with_lac x counted) w) cleared
      (with_ac_byte cleared (bit_or (ac_byte cleared) c.key)) (krs i) (one_of i 0o6034 0o6036) refl
      (moved (λ (x : ℕ). left x c.print c.mark) c.printer 0 (tcf i) (one_of i 0o6042 0o6046) refl
      (moved (λ (x : ℕ). left printer x c.mark) c.print (ac_byte lac) (tpc i) (one_of i 0o6044 0o6046)
      (ap (λ (x : ℕ). left printer x c.mark) (mod-eq_of_lt (omega arith)))
      (seen (ap (λ (x : ℕ). left printer x c.mark) (prints_found i c o.lac c.print))
      (moved (λ (x : ℕ). left printer (pick (tpc i) (ac_byte o.lac) c.print) x) c.mark 1 (tpc i) (one_of i 0o6044 0o6046) refl r)))))))

-- and at another word they do nothing
pub ends_others : (v : Variant) (c : Devices) (o : State) (w : Work) → FlagsOf v c → for_devices v w.i ≡ false → {e : Devices} {p : State} {rs : List Row}
    → Ends v e rs (in_places v c o w) p → Ends v e (rows·devices v rs) (in_places v c o w) p
ends_others plain c o w f none r = r
ends_others devices c o w f none r =
    ends_words c o w f
    (seen (ap₂ (λ (d : Devices) (s : State). in_places devices d s w) (devices_stay w.i none o.lac c) (state_stays w.i none c o)) r)
