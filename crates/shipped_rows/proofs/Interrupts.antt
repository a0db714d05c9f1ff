-- The rows of the interrupt test and of op 6, which switches it.
-- Assumes nothing.
use mathlib.Core.Path.{◌≡◌, refl, ap, ◌∙◌}
use mathlib.Core.Bool.{Bool, true, false, not, ◌&&◌}
use Prim.Native.Nat.{ℕ, ◌^◌, ◌<◌}
use native.Mathlib.Nat.{mod-eq_of_lt}
use lib.Dec.{eqb, lit<}
use Rattle.word.specs.Choice.{on, pick}
use Rattle.word.specs.Word.{word_bits, complement}
use Rattle.devices.specs.declared.Devices.{Devices}
use Rattle.machine_state.specs.State.{State, Good, stored, with_pc, with_enable, with_request}
use Rattle.machine_state.specs.Instruction.{is_device}
use Rattle.machine_state.specs.Interrupt.{interrupted, interrupt_test, tested_if, ion, iof, input_output}
use Rattle.machine_state.proofs.Keeps.{enable_good, request_good}
use Rattle.machine_console.specs.Instructions.{devices_after, state_after}
use Rattle.machine_console.specs.Console.{line, line_test}
use Rattle.machine_console.proofs.Keeps.{state_good}
use Rattle.shipped_rows.specs.Variant.{Variant, plain, devices}
use Rattle.shipped_rows.proofs.Tree.{rows·taken, rows·requested, rows·enabled, rows·interrupt, rows·iof, rows·iot}
use Rattle.shipped_rows.proofs.Labels.{at_the_end, interrupt_opr}
use Rattle.shipped_rows.proofs.Places.{Work, Fit, in_places}
use Rattle.shipped_rows.proofs.Ends.{Ends, past, acts, idles, jumps, stays, Tested}
use Rattle.shipped_rows.proofs.Working.{i_is}
use Rattle.shipped_rows.proofs.Bits.{of_bit, negated, on_flag}
use Rattle.shipped_rows.proofs.DeviceWords.{device_not}
use Rattle.devices.proofs.Starts.{Flags}
use Rattle.machine_console.proofs.Keeps.{line_lt}
use Rattle.shipped_rows.proofs.Machines.{test_of, for_devices, FlagsOf}
use Rattle.shipped_rows.proofs.Devices.{ends_words, ends_others}

module _ (v : Variant) {c : Devices} {o : State} {w : Work} (f : Fit w) where
  -- "M[0] = PC, PC = 1, INTERRUPT.ENABLE = 0"
  interrupts : o.pc < 2 ^ word_bits → (enabled requested : Bool) → on (complement 1 o.enable) ≡ not enabled → on (complement 1 o.request) ≡ not requested
      → Ends v c (rows·enabled v) (in_places v c o w) (pick (enabled && requested) (interrupted o) o)
  interrupts h false requested p q = jumps (at_the_end (rows·requested v)) p (past f)
  interrupts h true false p q = stays (at_the_end (rows·requested v)) p (jumps (at_the_end (rows·taken v)) q (past f))
  interrupts h true true p q =
      stays (at_the_end (rows·requested v)) p (stays (at_the_end (rows·taken v)) q
      (acts (in_places v c (stored 0 o.pc o) w) refl (ap (λ (x : ℕ). in_places v c (stored 0 x o) w) (mod-eq_of_lt h))
      (acts (in_places v c (with_pc 1 (stored 0 o.pc o)) w) refl refl
      (acts (in_places v c (interrupted o) w) refl refl (past f)))))

  tests : Good o → Ends v c (rows·enabled v) (in_places v c o w) (interrupt_test o)
  unfolding interrupt_test
  tests g =
      interrupts g.pc (on o.enable) (on o.request) (on_flag (negated (of_bit o.enable g.enable))) (on_flag (negated (of_bit o.request g.request)))

-- INTERRUPT.REQUEST takes its value from the flags, where there are devices: each machine's own test is what the rows make
ends_interrupt : (v : Variant) {c : Devices} {o : State} {w : Work} → FlagsOf v c → Good o → Fit w → Ends v c (rows·interrupt v) (in_places v c o w) (test_of v c o)
unfolding line_test
ends_interrupt plain h g f = tests plain f g
ends_interrupt devices {c} {o} {w} h g f =
    acts (in_places devices c (with_request (line c) o) w) refl (ap (λ (x : ℕ). in_places devices c (with_request x o) w) (mod-eq_of_lt (line_lt h)))
    (tests devices f (request_good (line_lt h) g))

pub rows_test : (v : Variant) {c : Devices} → FlagsOf v c → Tested v c (test_of v c)
rows_test v h = record { ends = λ o w g f. ends_interrupt v h g f }

-- op 6 by the two words that it knows without devices
module _ (v : Variant) {c : Devices} {test : State → State} (tested : Tested v c test) {o : State} {w : Work} (g : Good o) (f : Fit w)
    (h : FlagsOf v c) (none : for_devices v w.i ≡ false) where
  switches : (first second : Bool) → eqb w.i ion ≡ first → eqb w.i iof ≡ second
      → Ends v c (rows·iot v) (in_places v c o w) (tested_if test (not first) (pick first (with_enable 1 o) (pick second (with_enable 0 o) o)))
  switches true second p q =
      acts (in_places v c (with_enable 1 o) w) (i_is v c o w ion ∙ p) refl
      (jumps (at_the_end (rows·iof v)) (i_is v c (with_enable 1 o) w ion ∙ p) (past f))
  switches false true p q =
      idles (i_is v c o w ion ∙ p)
      (stays (at_the_end (rows·iof v)) (i_is v c o w ion ∙ p)
      (acts (in_places v c (with_enable 0 o) w) (i_is v c o w iof ∙ q) refl
      (ends_others v c (with_enable 0 o) w h none (jumps (interrupt_opr v) refl (tested.ends (with_enable 0 o) w (enable_good (lit< tt) g) f)))))
  switches false false p q =
      idles (i_is v c o w ion ∙ p)
      (stays (at_the_end (rows·iof v)) (i_is v c o w ion ∙ p)
      (idles (i_is v c o w iof ∙ q)
      (ends_others v c o w h none (jumps (interrupt_opr v) refl (tested.ends o w g f)))))

  pub ends_iot : Ends v c (rows·iot v) (in_places v c o w) (tested_if test (not (eqb w.i ion)) (input_output w.i o))
  unfolding input_output
  ends_iot = switches (eqb w.i ion) (eqb w.i iof) refl refl

-- a word of the devices, over the test of the devices that it leaves
pub ends_device : {c : Devices} {o : State} {w : Work} {test : State → State} → is_device w.i ≡ true → Good o → Fit w → Flags c
    → Tested devices (devices_after w.i o.lac c) test
    → Ends devices (devices_after w.i o.lac c) (rows·iot devices) (in_places devices c o w) (test (state_after w.i c o))
ends_device {c} {o} {w} device g f h tested =
    let e : Devices = devices_after w.i o.lac c in
    let not-ion = i_is devices c o w ion ∙ device_not w.i ion refl device in
    idles not-ion
    (stays (at_the_end (rows·iof devices)) not-ion
    (idles (i_is devices c o w iof ∙ device_not w.i iof refl device)
    (ends_words c o w h
    (jumps (interrupt_opr devices) refl (tested.ends (state_after w.i c o) w (state_good w.i c g) f)))))
