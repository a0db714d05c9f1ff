-- The rows of op 7: its first and third group, and which group it is.
-- Assumes nothing.
use mathlib.Core.Path.{refl, ap}
use mathlib.Core.Bool.{Bool, true, not, ◌&&◌}
use mathlib.Core.List.{List}
use Prim.Native.Nat.{ℕ, ◌+◌, ◌%◌, ◌^◌, ◌<◌}
use native.Mathlib.Nat.{mod-eq_of_lt}
use lib.Dec.{lit<}
use Rattle.word.specs.Choice.{on, pick}
use Rattle.word.specs.Word.{word_bits, complement, rotated_left, rotated_right}
use Rattle.word.proofs.Choice.{pick_either}
use Rattle.word.proofs.Rotation.{rotated_left_lt, rotated_right_lt}
use Rattle.devices.specs.declared.Devices.{Devices}
use Rattle.machine_state.specs.State.{State, Good, lac_bits, with_lac, link, ac, with_link, with_ac}
use Rattle.machine_state.specs.Instruction.{flag}
use Rattle.machine_state.specs.Interrupt.{tested_if}
use Rattle.machine_state.proofs.Keeps.{lac_good}
use Rattle.text_declaration.specs.Rows.{Row}
use Rattle.rows_value.specs.Value as rows
use Rattle.machine_operate.specs.Operate as machine
use Rattle.machine_operate.specs.Operate.{cleared, link_cleared, complemented, link_complemented, increased, changed, group1, group2, group3, clears_run, operate}
use Rattle.machine_operate.proofs.Changes.{cleared_lt, changed_lt}
use Rattle.shipped_rows.specs.Variant.{Variant}
use Rattle.shipped_rows.proofs.Tree.{rows·opr, rows·group1, rotates, rows·group3, rows·interrupt}
use Rattle.shipped_rows.proofs.Labels.{Below, here, under, interrupt_group2, interrupt_twice, group2_twice, group3_second}
use Rattle.shipped_rows.proofs.Places.{Work, Fit, in_places}
use Rattle.shipped_rows.proofs.Ends.{Ends, moved, jumps, decides, Tested}
use Rattle.shipped_rows.proofs.Working.{i_bit_lem}
use Rattle.shipped_rows.proofs.Skips.{ends_second}

module _ (v : Variant) {c : Devices} {test : State → State} (tested : Tested v c test) {o : State} {w : Work} (g : Good o) (f : Fit w) where
  abbrev i : ℕ
  i = w.i

  -- LAC rotated by n places: left, and after it right
  abbrev left_by : ℕ → ℕ → ℕ
  left_by n x = pick (on (flag 9 i)) (rotated_left lac_bits n x) x

  abbrev rotated_by : ℕ → ℕ → ℕ
  rotated_by n x = pick (on (flag 8 i)) (rotated_right lac_bits n (left_by n x)) (left_by n x)

  -- LAC after each change of group 1
  abbrev lac₁ : ℕ
  lac₁ = cleared i o.lac

  abbrev lac₂ : ℕ
  lac₂ = link_cleared i lac₁

  abbrev lac₃ : ℕ
  lac₃ = complemented i lac₂

  abbrev lac₄ : ℕ
  lac₄ = link_complemented i lac₃

  abbrev lac₅ : ℕ
  lac₅ = increased i lac₄

  -- a state with another LAC
  abbrev lac_is : ℕ → rows.State
  lac_is x = in_places v c (with_lac x o) w

  ends_lac : (x : ℕ) → x < 2 ^ lac_bits → Ends v c (rows·interrupt v) (lac_is x) (test (with_lac x o))
  ends_lac x h = tested.ends (with_lac x o) w (lac_good h g) f

  ends_group3 : Ends v c (rows·group3 v) (in_places v c o w) (test (group3 i o))
  unfolding group3
  ends_group3 = moved lac_is o.lac (with_ac o.lac 0) (on (flag 4 i)) (i_bit_lem v c o w 4) refl (ends_lac (cleared i o.lac) (cleared_lt i g.lac))

  left_by_lt : (n : ℕ) {x : ℕ} → x < 2 ^ lac_bits → left_by n x < 2 ^ lac_bits
  left_by_lt n h = pick_either (λ (z : ℕ). z < 2 ^ lac_bits) (on (flag 9 i)) (rotated_left_lt lac_bits (lit< tt) n h) h

  rotated_by_lt : (n : ℕ) {x : ℕ} → x < 2 ^ lac_bits → rotated_by n x < 2 ^ lac_bits
  rotated_by_lt n h = pick_either (λ (z : ℕ). z < 2 ^ lac_bits) (on (flag 8 i)) (rotated_right_lt lac_bits (lit< tt) n (left_by_lt n h)) (left_by_lt n h)

  -- two rows rotate by n places, and the third goes to the interrupt test
  ends_rotates : (n : ℕ) {rs : List Row} → Below (rows·interrupt v) rs → (x : ℕ) → x < 2 ^ lac_bits → Ends v c (rotates v n rs) (lac_is x) (test (with_lac (rotated_by n x) o))
  ends_rotates n below x h =
      moved lac_is x (rotated_left lac_bits n x) (on (flag 9 i)) (i_bit_lem v c (with_lac x o) w 9) (ap lac_is (mod-eq_of_lt (rotated_left_lt lac_bits (lit< tt) n h)))
      (moved lac_is (left_by n x) (rotated_right lac_bits n (left_by n x)) (on (flag 8 i)) (i_bit_lem v c (with_lac (left_by n x) o) w 8)
      (ap lac_is (mod-eq_of_lt (rotated_right_lt lac_bits (lit< tt) n (left_by_lt n h))))
      (jumps below refl (ends_lac (rotated_by n x) (rotated_by_lt n h))))

  ends_group1 : Ends v c (rows·group1 v) (in_places v c o w) (test (group1 i o))
  unfolding group1 changed machine.rotated
  ends_group1 =
      moved lac_is o.lac (with_ac o.lac 0) (on (flag 4 i)) (i_bit_lem v c o w 4) refl
      (moved lac_is lac₁ (with_link lac₁ 0) (on (flag 5 i)) (i_bit_lem v c (with_lac lac₁ o) w 5) refl
      (moved lac_is lac₂ (with_ac lac₂ (complement word_bits (ac lac₂))) (on (flag 6 i)) (i_bit_lem v c (with_lac lac₂ o) w 6) refl
      (moved lac_is lac₃ (with_link lac₃ (complement 1 (link lac₃))) (on (flag 7 i)) (i_bit_lem v c (with_lac lac₃ o) w 7) refl
      (moved lac_is lac₄ ((lac₄ + 1) % 2 ^ lac_bits) (on (flag 11 i)) (i_bit_lem v c (with_lac lac₄ o) w 11) refl
      (decides (under (under (under here))) (λ (t : Bool). test (with_lac (rotated_by (pick t 2 1) lac₅) o)) (on (flag 10 i)) (i_bit_lem v c (with_lac lac₅ o) w 10)
      (ends_rotates 2 (interrupt_group2 v) lac₅ (changed_lt i g.lac))
      (ends_rotates 1 (interrupt_twice v) lac₅ (changed_lt i g.lac)))))))

  -- the groups by bits 3 and 11, which tell what bit 10 means, too
  abbrev ended : Bool → Bool → State
  ended three eleven =
      tested_if test (not (three && not eleven && on (flag 10 i))) (pick three (pick eleven (group3 i o) (group2 i o)) (group1 i o))

  pub ends_opr : Ends v c (rows·opr v) (in_places v c o w) (tested_if test (not (clears_run i)) (operate i o))
  unfolding operate clears_run
  ends_opr =
      decides (under (under (under (under (under (under (under (under (under (group2_twice v)))))))))) (λ (t : Bool). ended t (on (flag 11 i))) (on (flag 3 i)) (i_bit_lem v c o w 3)
      (decides (group3_second v) (ended true) (on (flag 11 i)) (i_bit_lem v c o w 11) ends_group3 (ends_second v tested g f))
      ends_group1
