-- The machine registers by their places: what holds at each of them and past the last holds at every place. No register is wider than LAC. Registers and
-- their values are each other's. A list of values is copied place by place, and a name looked for place by place.
-- Assumes nothing.
use mathlib.Core.Path.{◌≡◌, refl, sym, ap, ◌∙◌}
use mathlib.Core.Bool.{true, false}
use mathlib.Core.List.{List}
use Prim.Native.Nat.{ℕ, zero, suc, ◌+◌, ◌≤◌, ◌<◌}
use native.Mathlib.Nat.{zero-add, add-zero, add-suc, suc-add}
use native.Mathlib.Numerals.{add-one}
use lib.Dec.{lit≤}
use lib.ListN.{length, get_or, set, take, drop, drop_of_length-le, get_or-map}
use lib.Seq.{sets, drop-cons}
use Rattle.laws.proofs.Lists.{sets_more, spelled_all}
use Rattle.characters.specs.Characters.{same}
use Rattle.characters.specs.Named.{Named, find}
use Rattle.machine_state.specs.declared.Machine.{Machine}
use Rattle.characters.specs.declared.registers.Register.{Register}
use Rattle.machine_state.specs.State.{lac_bits}
use Rattle.machine_state.specs.Registers.{machine_registers, widths, values, machine_of}
use Rattle.characters.specs.Table.{named, nameless}

pub by_register : (P : ℕ → Type 0) → P 0 → P 1 → P 2 → P 3 → P 4 → P 5 → ((k : ℕ) → P (suc (suc (suc (suc (suc (suc k))))))) → (k : ℕ) → P k
by_register P lac pc run enable request switches past zero = lac
by_register P lac pc run enable request switches past (suc zero) = pc
by_register P lac pc run enable request switches past (suc (suc zero)) = run
by_register P lac pc run enable request switches past (suc (suc (suc zero))) = enable
by_register P lac pc run enable request switches past (suc (suc (suc (suc zero)))) = request
by_register P lac pc run enable request switches past (suc (suc (suc (suc (suc zero))))) = switches
by_register P lac pc run enable request switches past (suc (suc (suc (suc (suc (suc k)))))) = past k

pub width_le : (k : ℕ) → get_or widths k 0 ≤ lac_bits
width_le = by_register (λ (k : ℕ). get_or widths k 0 ≤ lac_bits) (lit≤ tt) (lit≤ tt) (lit≤ tt) (lit≤ tt) (lit≤ tt) (lit≤ tt) (λ k. lit≤ tt)

-- an entry of the code's table has the width of its place
pub width_at_lem : (r : Register) (k : ℕ) → named r ≡ get_or machine_registers k nameless → r.width ≡ get_or widths k 0
width_at_lem r k e = ap (λ (n : Named). n.number) e ∙ sym (get_or-map (λ (n : Named). n.number) machine_registers k nameless)

-- the registers that have a machine's values are the machine's
pub machine_values : (m : Machine) → machine_of (values m) ≡ m
machine_values m = refl

-- and as many values as there are registers are the values of the registers that have them
pub values_machine : (l : List ℕ) → length l ≡ length machine_registers → values (machine_of l) ≡ l
values_machine l e = spelled_all 6 l e

-- values that a loop copies to the first places of a list, one more
pub copied_more : (l s : List ℕ) (k : ℕ) → k < length s → set (sets l 0 (take k s)) k (get_or s k 0) ≡ sets l 0 (take (k + 1) s)
copied_more l s k h = ap (λ (j : ℕ). set (sets l 0 (take k s)) j (get_or s k 0)) (sym (zero-add k)) ∙ sets_more l s 0 k h

-- the search for a name through a table, from place k on
module _ (name : List ℕ) (table : List Named) (z : Named) where
  pub here : (k : ℕ) → k < length table → same (get_or table k z).name name ≡ true → k + find name (drop k table) ≡ k
  unfolding find
  here k h t = rw (drop-cons table k z h, t, find) (add-zero k)

  pub later : (k : ℕ) → k < length table → same (get_or table k z).name name ≡ false → k + find name (drop k table) ≡ k + 1 + find name (drop (k + 1) table)
  unfolding find
  later k h t =
      rw (drop-cons table k z h, t, find, add-one k) (add-suc k (find name (drop (suc k) table)) ∙ sym (suc-add k (find name (drop (suc k) table))))

  pub nowhere : (k : ℕ) → length table ≤ k → k + find name (drop k table) ≡ k
  unfolding find
  nowhere k h = rw (drop_of_length-le table {i = k} h) (add-zero k)
