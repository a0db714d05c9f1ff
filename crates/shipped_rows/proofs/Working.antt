-- What the rows' conditions and addresses come to, in the machine's own words: the working registers, each read by one law.
-- Assumes nothing.
use mathlib.Core.Path.{◌≡◌, ap, ◌∙◌}
use Prim.Native.Nat.{ℕ, ◌^◌, ◌<◌}
use native.Mathlib.Nat.{mod-eq_of_lt}
use lib.Dec.{eqb}
use Rattle.word.specs.Choice.{on}
use Rattle.word.specs.Word.{word_bits, bits}
use Rattle.word.proofs.Choice.{on_bit}
use Rattle.devices.specs.declared.Devices.{Devices}
use Rattle.machine_state.specs.State.{State}
use Rattle.machine_state.specs.Instruction.{op, flag}
use Rattle.text_operators.specs.declared.Operator.TheVariants.{Equal}
use Rattle.text_code.specs.Tree.{constant, binary}
use Rattle.rows_value.specs.Value.{value, place}
use Rattle.shipped_rows.specs.Variant.{Variant}
use Rattle.shipped_rows.proofs.Tree as tree
use Rattle.shipped_rows.proofs.Places.{Work, in_places, work_read}

module _ (v : Variant) (c : Devices) (o : State) (w : Work) where
  -- bits a to b of i
  pub i_bits_lem : (a b : ℕ) → value (in_places v c o w) (tree.i_bits v a b) ≡ bits word_bits a b w.i
  i_bits_lem a b = ap (bits word_bits a b) (work_read v c o w 0)

  -- the page of last.pc
  pub last_page_lem : value (in_places v c o w) (tree.last_page v) ≡ bits word_bits 0 4 w.last
  last_page_lem = ap (bits word_bits 0 4) (work_read v c o w 1)

  -- one bit of i, as a test
  pub i_bit_lem : (k : ℕ) → on (value (in_places v c o w) (tree.i_bit v k)) ≡ on (flag k w.i)
  i_bit_lem k = ap on (i_bits_lem k k)

  -- whether i is a word, and whether its op is a number
  pub i_is : (n : ℕ) → on (value (in_places v c o w) (binary Equal (tree.i v) (constant 12 n))) ≡ eqb w.i n
  i_is n = on_bit _ ∙ ap (λ (x : ℕ). eqb x n) (work_read v c o w 0)

  pub op_is : (n : ℕ) → on (value (in_places v c o w) (binary Equal (tree.op v) (constant 3 n))) ≡ eqb (op w.i) n
  op_is n = on_bit _ ∙ ap (λ (x : ℕ). eqb x n) (i_bits_lem 0 2)

  -- "A memory address is taken modulo 4,096": eadd is one
  pub at_eadd : w.eadd < 2 ^ word_bits → place (value (in_places v c o w) (tree.eadd v)) ≡ w.eadd
  at_eadd h = ap place (work_read v c o w 2) ∙ mod-eq_of_lt h

  pub skip_is : value (in_places v c o w) (tree.skip v) ≡ w.skip
  skip_is = work_read v c o w 3
