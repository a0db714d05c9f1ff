-- The rows of ops 0 to 5: each works on the word at eadd and ends with the interrupt test.
-- Assumes nothing.
use mathlib.Core.Path.{◌≡◌, refl, sym, ap, ap₂, ◌∙◌, subst}
use Prim.Native.Nat.{ℕ, ◌+◌, ◌%◌, ◌^◌, ◌<◌}
use native.Mathlib.Nat.{mod-eq_of_lt}
use lib.Bits.{bit_and}
use lib.Dec.{eqb}
use lib.ListN.{get_or}
use lib.Seq.{get_or-set_same}
use Rattle.word.specs.Word.{word_bits, next}
use Rattle.word.proofs.Choice.{pick_either, on_bit}
use Rattle.word.proofs.Next.{next_lt}
use Rattle.devices.specs.declared.Devices.{Devices}
use Rattle.machine_state.specs.State.{State, Good, lac_bits, word, stored, with_lac, with_pc, ac, with_ac}
use Rattle.machine_state.specs.Instruction.{op}
use Rattle.machine_state.proofs.Lac.{ac_lt, with_ac_lt, wrapped_lt}
use Rattle.machine_state.proofs.Keeps.{lac_good, pc_good, stored_good}
use Rattle.machine_reference.specs.Reference.{and_to, add_to, increment_and_skip, deposit, call_at, jump_to, operation}
use Rattle.machine_reference.proofs.Ops.{by_op}
use Rattle.text_code.specs.Tree.{memory}
use Rattle.rows_value.specs.Value.{value}
use Rattle.shipped_rows.specs.Variant.{Variant}
use Rattle.shipped_rows.proofs.Tree.{eadd, rows·execute, rows·jmp, rows·and, rows·tad, rows·isz, rows·dca, rows·jms}
use Rattle.shipped_rows.proofs.Labels.{under, interrupt_and, interrupt_tad, interrupt_isz, interrupt_dca, interrupt_jms, interrupt_iot, and_jmp, tad_jmp, isz_jmp, dca_jmp, jms_jmp}
use Rattle.shipped_rows.proofs.Places.{Work, Fit, in_places, work_read}
use Rattle.shipped_rows.proofs.Ends.{Ends, acts, moved, jumps, branches, Tested}
use Rattle.shipped_rows.proofs.Working.{op_is, at_eadd}

module _ (v : Variant) {c : Devices} {test : State → State} (tested : Tested v c test) {o : State} {w : Work} (g : Good o) (f : Fit w) where
  abbrev e : ℕ
  e = w.eadd

  ends_jmp : Ends v c (rows·jmp v) (in_places v c o w) (test (jump_to e o))
  ends_jmp =
      acts (in_places v c (jump_to e o) w) refl (ap (λ (x : ℕ). in_places v c (with_pc x o) w) (at_eadd v c o w f.eadd))
      (jumps (interrupt_and v) refl (tested.ends (jump_to e o) w (pc_good f.eadd g) f))

  ends_and : Ends v c (rows·and v) (in_places v c o w) (test (and_to e o))
  ends_and =
      acts (in_places v c (and_to e o) w) refl
      (ap (λ (a : ℕ). in_places v c (with_lac (with_ac o.lac (bit_and (ac o.lac) (word a o))) o) w) (at_eadd v c o w f.eadd))
      (jumps (interrupt_tad v) refl (tested.ends (and_to e o) w (lac_good (with_ac_lt (bit_and (ac o.lac) (word e o)) g.lac) g) f))

  ends_tad : Ends v c (rows·tad v) (in_places v c o w) (test (add_to e o))
  ends_tad =
      acts (in_places v c (add_to e o) w) refl (ap (λ (a : ℕ). in_places v c (with_lac ((o.lac + word a o) % 2 ^ lac_bits) o) w) (at_eadd v c o w f.eadd))
      (jumps (interrupt_isz v) refl (tested.ends (add_to e o) w (lac_good (wrapped_lt (o.lac + word e o)) g) f))

  ends_dca : Ends v c (rows·dca v) (in_places v c o w) (test (deposit e o))
  ends_dca =
      acts (in_places v c (stored e (ac o.lac) o) w) refl
      (ap₂ (λ (a x : ℕ). in_places v c (stored a x o) w) (at_eadd v c o w f.eadd) (mod-eq_of_lt (ac_lt o.lac)))
      (acts (in_places v c (deposit e o) w) refl refl
      (jumps (interrupt_jms v) refl (tested.ends (deposit e o) w (lac_good (with_ac_lt 0 g.lac) (stored_good e (ac_lt o.lac) g)) f)))

  ends_jms : Ends v c (rows·jms v) (in_places v c o w) (test (call_at e o))
  ends_jms =
      let s : State = stored e o.pc o in
      acts (in_places v c s w) refl (ap₂ (λ (a x : ℕ). in_places v c (stored a x o) w) (at_eadd v c o w f.eadd) (mod-eq_of_lt g.pc))
      (acts (in_places v c (call_at e o) w) refl (ap (λ (x : ℕ). in_places v c (with_pc (next x) s) w) (work_read v c s w 2))
      (jumps (interrupt_iot v) refl (tested.ends (call_at e o) w (pc_good (next_lt e) (stored_good e g.pc g)) f)))

  -- the word that op 2 leaves
  abbrev increased : ℕ
  increased = next (word e o)

  read_back : value (in_places v c (stored e increased o) w) (memory (eadd v)) ≡ increased
  read_back =
      ap (λ (a : ℕ). get_or (stored e increased o).memory a 0) (at_eadd v c (stored e increased o) w f.eadd)
      ∙ get_or-set_same o.memory e increased 0 (subst (λ (n : ℕ). e < n) (sym g.memory.size) f.eadd)

  ends_isz : Ends v c (rows·isz v) (in_places v c o w) (test (increment_and_skip e o))
  ends_isz =
      acts (in_places v c (stored e increased o) w) refl (ap (λ (a : ℕ). in_places v c (stored a (next (word a o)) o) w) (at_eadd v c o w f.eadd))
      (moved (λ (n : ℕ). in_places v c (with_pc n (stored e increased o)) w) o.pc (next o.pc) (eqb increased 0)
      (on_bit _ ∙ ap (λ (x : ℕ). eqb x 0) read_back) refl
      (jumps (interrupt_dca v) refl
      (tested.ends (increment_and_skip e o) w
      (pc_good (pick_either (λ (n : ℕ). n < 2 ^ word_bits) (eqb increased 0) (next_lt o.pc) g.pc) (stored_good e (next_lt (word e o)) g)) f)))

  pub ends_execute : Ends v c (rows·execute v) (in_places v c o w) (test (operation (op w.i) e o))
  ends_execute =
      subst (λ (s : State). Ends v c (rows·execute v) (in_places v c o w) (test s)) (sym (by_op (op w.i) e o))
      (branches (under (under (under (under (and_jmp v))))) test (eqb (op w.i) 0) (op_is v c o w 0) ends_and
      (branches (under (under (under (tad_jmp v)))) test (eqb (op w.i) 1) (op_is v c o w 1) ends_tad
      (branches (under (under (isz_jmp v))) test (eqb (op w.i) 2) (op_is v c o w 2) ends_isz
      (branches (under (dca_jmp v)) test (eqb (op w.i) 3) (op_is v c o w 3) ends_dca
      (branches (jms_jmp v) test (eqb (op w.i) 4) (op_is v c o w 4) ends_jms ends_jmp)))))
