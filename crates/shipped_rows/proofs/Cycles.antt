-- One cycle of the shipped rows is one step of the machine, in every variant and whatever the working registers hold.
-- Assumes nothing.
use mathlib.Core.Path.{◌≡◌, refl, sym, ap, ◌∙◌, subst}
use mathlib.Core.Bool.{true, false, false≢true}
use Prim.Native.Nat.{ℕ, ◌%◌, ◌^◌}
use native.Mathlib.Nat.{mod-eq_of_lt}
use lib.Dec.{eqb}
use lib.ListN.{get_or}
use Rattle.laws.proofs.Tests.{by_case}
use Rattle.word.specs.Word.{word_bits, next}
use Rattle.word.proofs.Next.{next_lt}
use Rattle.devices.specs.declared.Devices.{Devices}
use Rattle.machine_state.specs.State.{State, Good, word, with_pc}
use Rattle.machine_state.specs.Instruction.{op}
use Rattle.machine_state.specs.Interrupt.{tested_if}
use Rattle.machine_state.proofs.Keeps.{pc_good}
use Rattle.machine_run.specs.Step.{execute, makes_test, step_with}
use Rattle.machine_run.proofs.Tested.{tested_by_op}
use Rattle.machine_run.proofs.Advances.{device_six}
use Rattle.machine_console.specs.Console.{Console, device_step}
use Rattle.rows_cycles.specs.Cycle.{cycle}
use Rattle.text_declaration.specs.Rows.{Description}
use Rattle.shipped_rows.specs.Variant.{Variant, plain, devices}
use Rattle.shipped_rows.specs.Shipped.{shipped}
use Rattle.shipped_rows.proofs.Tree.{rows·fetch, rows·decode}
use Rattle.shipped_rows.proofs.Labels.{under, iot_address, opr_address}
use Rattle.shipped_rows.proofs.Accepted.{shipped_is}
use Rattle.shipped_rows.proofs.Places.{Work, Fit, in_places, with_i, with_last, i_fit, last_fit, i_stored, last_stored}
use Rattle.shipped_rows.proofs.Unnoted.{cycle_unnoted}
use Rattle.shipped_rows.proofs.Ends.{Ends, acts, jumps, branches, Tested}
use Rattle.shipped_rows.proofs.Working.{op_is}
use Rattle.machine_console.proofs.Keeps.{after_flags}
use Rattle.shipped_rows.proofs.Machines.{test_of, for_devices, step_of, FlagsOf, Sound}
use Rattle.shipped_rows.proofs.Interrupts.{rows_test, ends_iot, ends_device}
use Rattle.shipped_rows.proofs.Addresses.{ends_address}
use Rattle.shipped_rows.proofs.Operates.{ends_opr}

-- the word in i, which is no word of devices, by its op
module _ (v : Variant) {c : Devices} {test : State → State} (tested : Tested v c test) {o : State} {w : Work} (g : Good o) (f : Fit w)
    (h : FlagsOf v c) (none : for_devices v w.i ≡ false) where
  ends_decode : Ends v c (rows·decode v) (in_places v c o w) (tested_if test (makes_test w.i) (execute w.i w.last o))
  ends_decode =
      subst (Ends v c (rows·decode v) (in_places v c o w)) (sym (tested_by_op test w.i w.last o))
      (branches (under (iot_address v)) (λ (x : State). x) (eqb (op w.i) 6) (op_is v c o w 6) (ends_iot v tested g f h none)
      (branches (opr_address v) (λ (x : State). x) (eqb (op w.i) 7) (op_is v c o w 7) (ends_opr v tested g f) (ends_address v tested g f)))

-- the fetch, from the machine x
module _ (v : Variant) {x : Console} {w : Work} (h : Sound v x) (f : Fit w) where
  abbrev c : Devices
  c = x.devices

  abbrev o : State
  o = x.state

  abbrev i : ℕ
  i = word o.pc o

  -- the working registers and the state that it leaves
  abbrev fetched : Work
  fetched = with_last o.pc (with_i i w)

  abbrev counted : State
  counted = with_pc (next o.pc) o

  counted_good : Good counted
  counted_good = pc_good (next_lt o.pc) h.good

  fetched_fit : Fit fetched
  fetched_fit = last_fit h.good.pc (i_fit (h.good.memory.words o.pc) f)

  fetches : {e : Devices} {p : State} → Ends v e (rows·decode v) (in_places v c counted fetched) p → Ends v e (rows·fetch v) (in_places v c o w) p
  fetches r =
      let g = h.good in
      acts (in_places v c o (with_i i w)) refl
      (i_stored v c o w _ (ap (λ (a : ℕ). get_or o.memory a 0 % 2 ^ word_bits) (mod-eq_of_lt g.pc) ∙ mod-eq_of_lt (g.memory.words o.pc)))
      (acts (in_places v c o fetched) refl (last_stored v c o (with_i i w) o.pc (mod-eq_of_lt g.pc))
      (acts (in_places v c counted fetched) refl refl r))

  other_word : for_devices v i ≡ false → Ends v c (rows·fetch v) (in_places v c o w) (step_with (test_of v c) o)
  unfolding step_with
  other_word none = fetches (ends_decode v (rows_test v h.flags) counted_good fetched_fit h.flags none)

device_word : (v : Variant) {x : Console} {w : Work} → Sound v x → Fit w → for_devices v (word x.state.pc x.state) ≡ true
    → Ends v (device_step x).devices (rows·fetch v) (in_places v x.devices x.state w) (device_step x).state
unfolding device_step
device_word plain h f device = absurd (false≢true device)
device_word devices {x} {w} h f device =
    let n : ℕ = i devices h f in
    fetches devices h f
    (jumps (under (iot_address devices)) (op_is devices x.devices (counted devices h f) (fetched devices h f) 6 ∙ ap (λ (k : ℕ). eqb k 6) (device_six n device))
    (ends_device device (counted_good devices h f) (fetched_fit devices h f) h.flags (rows_test devices (after_flags n x.state.lac h.flags))))

ends_step : (v : Variant) {x : Console} {w : Work} → Sound v x → Fit w
    → Ends v (step_of v x).devices (rows·fetch v) (in_places v x.devices x.state w) (step_of v x).state
ends_step v {x} {w} h f =
    by_case (λ (y : Console). Ends v y.devices (rows·fetch v) (in_places v x.devices x.state w) y.state)
    (for_devices v (word x.state.pc x.state)) (device_word v h f) (other_word v h f)

-- machine registers, devices and memory as a step leaves them, and working registers that fit
pub cycles_step : (v : Variant) {x : Console} {w : Work} → Sound v x → Fit w
    → (left : Work) × Fit left × ((cycle (shipped v).rows (in_places v x.devices x.state w)).state ≡ in_places v (step_of v x).devices (step_of v x).state left)
cycles_step v {x} {w} h f =
    let s = in_places v x.devices x.state w in
    let ends = ends_step v h f in (
      ends.left,
      ends.fits,
      ap (λ (d : Description). (cycle d.rows s).state) (shipped_is v) ∙ cycle_unnoted 1 (rows·fetch v) 0 s ∙ ends.same,
    )
