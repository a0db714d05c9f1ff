-- The state that the shipped rows work on: the machine's registers, with the devices' where a variant has them, the working registers, and whatever places follow, which no row touches. The machine's six are read and
-- written at their places by computing; the working registers stand where the variant has them, and for them there is one law of reading and one of storing.
-- Assumes nothing.
use mathlib.Core.Path.{◌≡◌, refl, sym, ap, ◌∙◌}
use mathlib.Core.List.{List, ◌∷◌, ◌++◌}
use Prim.Native.Nat.{ℕ, ◌+◌, ◌%◌, ◌^◌, ◌<◌}
use lib.ListN.{length, get_or, set}
use lib.Seq.{get_or-append-add}
use Rattle.laws.proofs.Lists.{set-append-add}
use Rattle.word.specs.Word.{word_bits}
use Rattle.machine_state.specs.declared.Machine.{Machine}
use Rattle.devices.specs.declared.Devices.{Devices}
use Rattle.machine_state.specs.State.{State, registers}
use Rattle.text_code.specs.Tree.{to_register}
use Rattle.rows_value.specs.Value as rows
use Rattle.rows_value.specs.Value.{store}
use Rattle.shipped_rows.specs.Variant.{Variant, plain, devices, registers_of, values_of}
use Rattle.shipped_rows.proofs.Tree.{work_at}

-- the working registers, and the places past them
pub record Work : Type 0 where
  pub i : ℕ
  pub last : ℕ
  pub eadd : ℕ
  pub skip : ℕ
  pub rest : List ℕ

-- "a value fits a register if it is no wider"; a place without a register holds 0
pub record Fit (w : Work) : Type 0 where
  pub i : w.i < 2 ^ word_bits
  pub last : w.last < 2 ^ word_bits
  pub eadd : w.eadd < 2 ^ word_bits
  pub skip : w.skip < 2
  pub rest : (k : ℕ) → get_or w.rest k 0 < 2 ^ 0

-- their values, in the order in which they stand
abbrev pub work_values : Work → List ℕ
work_values w = w.i ∷ w.last ∷ w.eadd ∷ w.skip ∷ w.rest

-- the machine's state, its devices and the working registers, in the places that a variant's rows know them by
abbrev pub in_places : Variant → Devices → State → Work → rows.State
in_places v c o w = record { registers = values_of v (registers o) c ++ work_values w; memory = o.memory }

-- ---- other working registers

abbrev pub with_i : ℕ → Work → Work
with_i x w = record { i = x; last = w.last; eadd = w.eadd; skip = w.skip; rest = w.rest }

abbrev pub with_last : ℕ → Work → Work
with_last x w = record { i = w.i; last = x; eadd = w.eadd; skip = w.skip; rest = w.rest }

abbrev pub with_eadd : ℕ → Work → Work
with_eadd x w = record { i = w.i; last = w.last; eadd = x; skip = w.skip; rest = w.rest }

abbrev pub with_skip : ℕ → Work → Work
with_skip x w = record { i = w.i; last = w.last; eadd = w.eadd; skip = x; rest = w.rest }

pub i_fit : {x : ℕ} {w : Work} → x < 2 ^ word_bits → Fit w → Fit (with_i x w)
i_fit h f = record { i = h; last = f.last; eadd = f.eadd; skip = f.skip; rest = f.rest }

pub last_fit : {x : ℕ} {w : Work} → x < 2 ^ word_bits → Fit w → Fit (with_last x w)
last_fit h f = record { i = f.i; last = h; eadd = f.eadd; skip = f.skip; rest = f.rest }

pub eadd_fit : {x : ℕ} {w : Work} → x < 2 ^ word_bits → Fit w → Fit (with_eadd x w)
eadd_fit h f = record { i = f.i; last = f.last; eadd = h; skip = f.skip; rest = f.rest }

pub skip_fit : {x : ℕ} {w : Work} → x < 2 → Fit w → Fit (with_skip x w)
skip_fit h f = record { i = f.i; last = f.last; eadd = f.eadd; skip = h; rest = f.rest }

-- ---- the working registers in their places

-- each machine register has a value
pub as_many : (v : Variant) (m : Machine) (c : Devices) → length (values_of v m c) ≡ length (registers_of v)
as_many plain m c = refl
as_many devices m c = refl

module _ (v : Variant) (c : Devices) (o : State) (w : Work) where
  -- the k-th of them, read
  pub work_read : (k : ℕ) → get_or (in_places v c o w).registers (work_at v k) 0 ≡ get_or (work_values w) k 0
  work_read k =
      ap (λ (n : ℕ). get_or (in_places v c o w).registers (n + k) 0) (sym (as_many v (registers o) c))
      ∙ get_or-append-add (values_of v (registers o) c) (work_values w) k 0

  -- and stored
  work_set : (k x : ℕ) → set (in_places v c o w).registers (work_at v k) x ≡ values_of v (registers o) c ++ set (work_values w) k x
  work_set k x =
      ap (λ (n : ℕ). set (in_places v c o w).registers (n + k) x) (sym (as_many v (registers o) c))
      ∙ set-append-add (values_of v (registers o) c) (work_values w) k x

  work_stored : (k bits x : ℕ) (w' : Work) → set (work_values w) k (x % 2 ^ bits) ≡ work_values w'
      → store (in_places v c o w) (to_register (work_at v k) bits) x ≡ in_places v c o w'
  work_stored k bits x w' e =
      ap (λ (l : List ℕ). record { registers = l; memory = o.memory }) (work_set k (x % 2 ^ bits) ∙ ap (λ (l : List ℕ). values_of v (registers o) c ++ l) e)

  -- one by one
  pub i_stored : (x : ℕ) {y : ℕ} → x % 2 ^ word_bits ≡ y → store (in_places v c o w) (to_register (work_at v 0) word_bits) x ≡ in_places v c o (with_i y w)
  i_stored x {y} e = work_stored 0 word_bits x (with_i y w) (ap (λ (z : ℕ). work_values (with_i z w)) e)

  pub last_stored : (x : ℕ) {y : ℕ} → x % 2 ^ word_bits ≡ y → store (in_places v c o w) (to_register (work_at v 1) word_bits) x ≡ in_places v c o (with_last y w)
  last_stored x {y} e = work_stored 1 word_bits x (with_last y w) (ap (λ (z : ℕ). work_values (with_last z w)) e)

  pub eadd_stored : (x : ℕ) {y : ℕ} → x % 2 ^ word_bits ≡ y → store (in_places v c o w) (to_register (work_at v 2) word_bits) x ≡ in_places v c o (with_eadd y w)
  eadd_stored x {y} e = work_stored 2 word_bits x (with_eadd y w) (ap (λ (z : ℕ). work_values (with_eadd z w)) e)

  pub skip_stored : (x : ℕ) {y : ℕ} → x % 2 ≡ y → store (in_places v c o w) (to_register (work_at v 3) 1) x ≡ in_places v c o (with_skip y w)
  skip_stored x {y} e = work_stored 3 1 x (with_skip y w) (ap (λ (z : ℕ). work_values (with_skip z w)) e)
