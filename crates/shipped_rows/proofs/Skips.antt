-- The rows of op 7's second group: the skip, AC, SWITCHES and RUN.
-- Assumes nothing.
use mathlib.Core.Path.{◌≡◌, refl, sym, ap, ◌∙◌, subst}
use mathlib.Core.Bool.{Bool, true, false, not, ◌&&◌, ◌||◌}
use mathlib.Core.List.{List, ◌∷◌}
use Prim.Native.Nat.{ℕ, ◌%◌, ◌^◌, ◌<◌}
use native.Mathlib.Nat.{mod-eq_of_lt}
use native.Mathlib.Omega.{arith}
use lib.Bits.{bit_and, bit_or}
use lib.Dec.{lit<}
use Rattle.word.specs.Choice.{on, pick, bit}
use Rattle.word.specs.Word.{word_bits, next}
use Rattle.word.proofs.Choice.{pick_either, on_bit, bit_lt}
use Rattle.word.proofs.Next.{next_lt}
use Rattle.devices.specs.declared.Devices.{Devices}
use Rattle.machine_state.specs.State.{State, Good, with_lac, with_pc, with_run, link, ac, with_ac}
use Rattle.machine_state.specs.Instruction.{flag}
use Rattle.machine_state.specs.Interrupt.{tested_if}
use Rattle.machine_state.proofs.Keeps.{lac_good, pc_good, run_good}
use Rattle.text_code.specs.Tree.{Expr}
use Rattle.text_declaration.specs.Rows.{Row, does}
use Rattle.rows_value.specs.Value as rows
use Rattle.rows_value.specs.Value.{value}
use Rattle.machine_operate.specs.Operate.{cleared, sign, skips_plain, switched, group2}
use Rattle.machine_operate.proofs.Changes.{cleared_lt, switched_lt}
use Rattle.machine_operate.proofs.Reversed.{sma, sza, snl, skips_by}
use Rattle.shipped_rows.specs.Variant.{Variant}
use Rattle.shipped_rows.proofs.Tree as tree
use Rattle.shipped_rows.proofs.Tree.{to_skip, one, rows·second, rows·decided, rows·runs}
use Rattle.shipped_rows.proofs.Labels.{at_the_end, interrupt_group3}
use Rattle.shipped_rows.proofs.Places.{Work, Fit, in_places, with_skip, skip_fit, skip_stored}
use Rattle.shipped_rows.proofs.Ends.{Ends, past, seen, acts, moved, jumps, decides, Tested}
use Rattle.shipped_rows.proofs.Working.{i_bits_lem, i_bit_lem, skip_is}
use Rattle.shipped_rows.proofs.Bits.{Flag, of_bit, of_zero, flag_and, on_flag, set_where}

module _ (v : Variant) {c : Devices} {test : State → State} (tested : Tested v c test) {o : State} {w : Work} (g : Good o) (f : Fit w) where
  abbrev i : ℕ
  i = w.i

  abbrev lac : ℕ
  lac = o.lac

  -- what is left to do once the skip is decided
  abbrev decided : Bool → State
  decided b =
      with_pc (pick b (next o.pc) o.pc)
      (with_lac (switched i o.switches (cleared i lac)) (with_run (pick (on (flag 10 i)) 0 o.run) o))

  decided_good : (b : Bool) → Good (decided b)
  decided_good b =
      pc_good (pick_either (λ (x : ℕ). x < 2 ^ word_bits) b (next_lt o.pc) g.pc)
      (lac_good (switched_lt i o.switches (cleared_lt i g.lac))
      (run_good (pick_either (λ (x : ℕ). x < 2) (on (flag 10 i)) (lit< tt) g.run) g))

  -- the working registers with the skip so far, and states with it; then with PC counted, too, and another LAC; then with another RUN
  abbrev skipping : Bool → Work
  skipping b = with_skip (bit b) w

  abbrev skip_so_far : Bool → rows.State
  skip_so_far b = in_places v c o (skipping b)

  abbrev counted : Bool → ℕ → State
  counted b x = with_lac x (with_pc (pick b (next o.pc) o.pc) o)

  abbrev lac_so_far : Bool → ℕ → rows.State
  lac_so_far b x = in_places v c (counted b x) (skipping b)

  abbrev run_so_far : Bool → ℕ → rows.State
  run_so_far b x = in_places v c (with_run x (decided b)) (skipping b)

  -- and the interrupt test, unless it halts
  abbrev ended : Bool → State
  ended b = tested_if test (not (on (flag 10 i))) (decided b)

  ends_decided : (b : Bool) → Ends v c (rows·decided v) (skip_so_far b) (ended b)
  ends_decided b =
      moved (λ (x : ℕ). in_places v c (with_pc x o) (skipping b)) o.pc (next o.pc) b (ap on (skip_is v c o (skipping b)) ∙ on_bit b) refl
      (moved (lac_so_far b) lac (with_ac lac 0) (on (flag 4 i)) (i_bit_lem v c (counted b lac) (skipping b) 4) refl
      (moved (lac_so_far b) (cleared i lac) (with_ac (cleared i lac) (bit_or (ac (cleared i lac)) o.switches)) (on (flag 9 i))
      (i_bit_lem v c (counted b (cleared i lac)) (skipping b) 9) refl
      (moved (run_so_far b) o.run 0 (on (flag 10 i)) (i_bit_lem v c (with_run o.run (decided b)) (skipping b) 10) refl
      (decides (at_the_end (rows·runs v)) (λ (t : Bool). tested_if test (not t) (decided b)) (on (flag 10 i)) (i_bit_lem v c (decided b) (skipping b) 10) (past (skip_fit (bit_lt b) f))
      (jumps (interrupt_group3 v) refl (tested.ends (decided b) (skipping b) (decided_good b) (skip_fit (bit_lt b) f)))))))

  -- a row that sets skip where its condition holds
  selects : {e : Expr} {rs : List Row} {p : State} (b t : Bool) → on (value (skip_so_far b) e) ≡ t → Ends v c rs (skip_so_far (b || t)) p
      → Ends v c (does e (to_skip v) one ∷ rs) (skip_so_far b) p
  selects b t condition r =
      moved (λ (x : ℕ). in_places v c o (with_skip x w)) (bit b) 1 t condition (skip_stored v c o (skipping b) 1 refl) (seen (ap (λ (x : ℕ). in_places v c o (with_skip x w)) (set_where b t)) r)

  -- a condition that bit k of i selects
  selected : (b : Bool) (k : ℕ) {x : ℕ} {t : Bool} → flag k i < 2 → Flag x t → on (bit_and (value (skip_so_far b) (tree.i_bit v k)) x) ≡ (on (flag k i) && t)
  selected b k {x} h p = ap (λ (y : ℕ). on (bit_and y x)) (i_bits_lem v c o (skipping b) k k) ∙ on_flag (flag_and (of_bit (flag k i) h) p)

  -- the skip turned round is its negation
  turned : (b : Bool) → value (skip_so_far b) (tree.reversed_skip v) ≡ bit (not b)
  turned true = rw (skip_is v c o (skipping true))
  turned false = rw (skip_is v c o (skipping false))

  -- the row by which bit 8 turns it round
  reverses : {rs : List Row} {p : State} (b : Bool) → Ends v c rs (skip_so_far (pick (on (flag 8 i)) (not b) b)) p
      → Ends v c (does (tree.i_bit v 8) (to_skip v) (tree.reversed_skip v) ∷ rs) (skip_so_far b) p
  reverses b r =
      moved skip_so_far b (not b) (on (flag 8 i)) (i_bit_lem v c o (skipping b) 8)
      (skip_stored v c o (skipping b) (value (skip_so_far b) (tree.reversed_skip v)) (ap (λ (x : ℕ). x % 2) (turned b) ∙ mod-eq_of_lt (bit_lt (not b)))) r

  ends_selected : Ends v c (rows·second v) (in_places v c o w) (ended (pick (on (flag 8 i)) (not (skips_plain i lac)) (skips_plain i lac)))
  ends_selected =
      acts (skip_so_far false) refl (skip_stored v c o w 0 refl)
      (selects false (sma i lac) (selected false 5 (omega arith) (of_bit (sign lac) (omega arith)))
      (selects (sma i lac) (sza i lac) (selected (sma i lac) 6 (omega arith) (of_zero (ac lac)))
      (selects (sma i lac || sza i lac) (snl i lac) (selected (sma i lac || sza i lac) 7 (omega arith) (of_bit (link lac) (omega arith)))
      (reverses (skips_plain i lac) (ends_decided (pick (on (flag 8 i)) (not (skips_plain i lac)) (skips_plain i lac)))))))

  pub ends_second : Ends v c (rows·second v) (in_places v c o w) (tested_if test (not (on (flag 10 i))) (group2 i o))
  unfolding group2
  ends_second = subst (λ (b : Bool). Ends v c (rows·second v) (in_places v c o w) (ended b)) (sym (skips_by i lac)) ends_selected
