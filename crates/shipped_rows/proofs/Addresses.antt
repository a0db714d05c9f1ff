-- The rows that work the address out, once, before ops 0 to 5.
-- Assumes nothing.
use mathlib.Core.Path.{◌≡◌, refl, ap, ap₂, ◌∙◌}
use mathlib.Core.Bool.{Bool, true, false}
use mathlib.Core.List.{List}
use Prim.Native.Nat.{ℕ, ◌%◌, ◌^◌, ◌<◌}
use native.Mathlib.Nat.{mod-eq_of_lt}
use native.Mathlib.Omega.{arith}
use lib.Dec.{eqb}
use lib.ListN.{get_or, set}
use Rattle.word.specs.Choice.{on, pick}
use Rattle.word.specs.Word.{word_bits, bits, complement, next}
use Rattle.word.proofs.Choice.{pick_either, on_bit}
use Rattle.word.proofs.Next.{next_lt}
use Rattle.devices.specs.declared.Devices.{Devices}
use Rattle.machine_state.specs.State.{State, Good, with_memory}
use Rattle.machine_state.specs.Instruction.{op, ib, pb, pa}
use Rattle.machine_state.proofs.Keeps.{stored_good}
use Rattle.machine_reference.specs.Address.{address, first_address, is_index, indexed, effective, after_indexing}
use Rattle.machine_reference.specs.Reference.{operation, reference}
use Rattle.machine_reference.proofs.Addresses.{first_address_lt}
use Rattle.rows_value.specs.Value as rows
use Rattle.shipped_rows.specs.Variant.{Variant}
use Rattle.shipped_rows.proofs.Tree.{rows·address}
use Rattle.shipped_rows.proofs.Labels.{here, under}
use Rattle.shipped_rows.proofs.Places.{Work, Fit, in_places, with_eadd, eadd_fit, work_read, eadd_stored}
use Rattle.shipped_rows.proofs.Ends.{Ends, seen, acts, moved, unless, Tested}
use Rattle.shipped_rows.proofs.Working.{i_bits_lem, last_page_lem, i_bit_lem, at_eadd}
use Rattle.shipped_rows.proofs.Bits.{of_bit, negated, on_flag, index_bits}
use Rattle.shipped_rows.proofs.References.{ends_execute}

-- the address of the page that is chosen
page_chosen : (t : Bool) (x y a : ℕ) → pick t (address x a) (address y a) ≡ address (pick t x y) a
page_chosen true x y a = refl
page_chosen false x y a = refl

-- an address is a word
on_page : (page : ℕ) (i : ℕ) → page < 2 ^ 5 → address page (pa i) % 2 ^ word_bits ≡ address page (pa i)
on_page page i h = omega arith

module _ (v : Variant) {c : Devices} {test : State → State} (tested : Tested v c test) {o : State} {w : Work} (g : Good o) (f : Fit w) where
  abbrev first : ℕ
  first = first_address w.i w.last

  abbrev after : List ℕ
  after = indexed first o.memory

  -- a state with another eadd
  abbrev eadd_is : ℕ → rows.State
  eadd_is x = in_places v c o (with_eadd x w)

  -- the address on page 0, and on the page of last.pc
  abbrev zero_page : ℕ
  zero_page = address 0 (pa w.i)

  abbrev own_page : ℕ
  own_page = address (bits word_bits 0 4 w.last) (pa w.i)

  chosen : pick (on (pb w.i)) own_page zero_page ≡ first
  unfolding first_address
  chosen = page_chosen (on (pb w.i)) (bits word_bits 0 4 w.last) 0 (pa w.i)

  first_lt : first < 2 ^ word_bits
  first_lt = first_address_lt w.i w.last

  after_good : Good (with_memory after o)
  unfolding indexed
  after_good =
      pick_either (λ (m : List ℕ). Good (with_memory m o)) (is_index first) (stored_good first (next_lt (get_or o.memory first 0)) g) g

  pub ends_address : Ends v c (rows·address v) (in_places v c o w) (test (reference w.i w.last o))
  unfolding reference effective after_indexing indexed
  ends_address =
      acts (eadd_is zero_page) refl
      (eadd_stored v c o w _ (ap (λ (a : ℕ). address 0 a % 2 ^ word_bits) (i_bits_lem v c o w 5 11) ∙ on_page 0 w.i (omega arith)))
      (moved eadd_is zero_page own_page (on (pb w.i)) (i_bit_lem v c o (with_eadd zero_page w) 4)
      (eadd_stored v c o (with_eadd zero_page w) _
      (ap₂ (λ (p a : ℕ). address p a % 2 ^ word_bits) (last_page_lem v c o (with_eadd zero_page w)) (i_bits_lem v c o (with_eadd zero_page w) 5 11)
      ∙ on_page (bits word_bits 0 4 w.last) w.i (omega arith)))
      (seen (ap eadd_is chosen)
      (unless (under (under here))
      (λ (t : Bool). test (operation (op w.i) (pick t (get_or after first 0) first) (with_memory (pick t after o.memory) o)))
      (on (ib w.i))
      (ap (λ (x : ℕ). on (complement 1 x)) (i_bits_lem v c o (with_eadd first w) 3 3) ∙ on_flag (negated (of_bit (ib w.i) (omega arith))))
      (ends_execute v tested g (eadd_fit first_lt f))
      (moved (λ (m : List ℕ). in_places v c (with_memory m o) (with_eadd first w)) o.memory (set o.memory first (next (get_or o.memory first 0)))
      (is_index first)
      (on_bit _ ∙ ap (λ (x : ℕ). eqb (bits word_bits 0 8 x) 1) (work_read v c o (with_eadd first w) 2) ∙ index_bits first_lt)
      (ap (λ (a : ℕ). in_places v c (with_memory (set o.memory a (next (get_or o.memory a 0))) o) (with_eadd first w)) (at_eadd v c o (with_eadd first w) first_lt))
      (acts (in_places v c (with_memory after o) (with_eadd (get_or after first 0) w)) refl
      (eadd_stored v c (with_memory after o) (with_eadd first w) _
      (ap (λ (a : ℕ). get_or after a 0 % 2 ^ word_bits) (at_eadd v c (with_memory after o) (with_eadd first w) first_lt) ∙ mod-eq_of_lt (after_good.memory.words first)))
      (ends_execute v tested after_good (eadd_fit (after_good.memory.words first) f)))))))
