-- The words of keyboard and teleprinter: each is neither 6001 nor 6002; every other word leaves machine and devices as they are; and none both reads and prints.
-- Assumes nothing.
use mathlib.Core.Path.{◌≡◌, refl, ap, ap₂, ◌∙◌}
use mathlib.Core.Bool.{Bool, true, false, ◌&&◌, ◌||◌}
use Prim.Native.Nat.{ℕ}
use lib.Bits.{bit_or}
use lib.Dec.{eqb}
use borrow.Author.Tests.{eqb-true}
use Rattle.laws.proofs.Tests.{by_test, not_so}
use Rattle.laws.proofs.Joined.{either}
use Rattle.word.specs.Choice.{on, pick}
use Rattle.word.specs.Word.{next}
use Rattle.devices.specs.declared.Devices.{Devices}
use Rattle.machine_state.specs.State.{State, with_lac, with_pc, with_ac}
use Rattle.machine_state.specs.Instruction.{is_device}
use Rattle.machine_console.specs.Instructions.{kcc, krs, tcf, tpc, ac_byte, with_ac_byte, lac_after, devices_after, state_after}

-- a word of a device isn't one of none
pub device_not : (i n : ℕ) → is_device n ≡ false → is_device i ≡ true → eqb i n ≡ false
device_not i n f e = by_test (eqb i n) (λ t. not_so (is_device i) e (ap is_device (eqb-true i n t) ∙ f)) (λ t. t)

-- ---- devices and LAC by what a word does: whether it clears AC and the keyboard's flag, reads the byte, clears the printer's flag, prints

abbrev devices_by : Bool → Bool → Bool → ℕ → Devices → Devices
devices_by clears lowers prints lac c =
    record { key = c.key; keyboard = pick clears 0 c.keyboard; printer = pick lowers 0 c.printer; print = pick prints (ac_byte lac) c.print; mark = pick prints 1 c.mark }

abbrev lac_by : Bool → Bool → Devices → ℕ → ℕ
lac_by clears reads c lac =
    let cleared : ℕ = pick clears (with_ac lac 0) lac in
    pick reads (with_ac_byte cleared (bit_or (ac_byte cleared) c.key)) cleared

-- ---- a word of no device

module _ (i : ℕ) (e : is_device i ≡ false) where
  other : (n : ℕ) → is_device n ≡ true → eqb i n ≡ false
  other n f = by_test (eqb i n) (λ t. not_so (is_device i) (ap is_device (eqb-true i n t) ∙ f) e) (λ t. t)

  neither : (m n : ℕ) → is_device m ≡ true → is_device n ≡ true → eqb i m || eqb i n ≡ false
  neither m n p q = ap₂ ◌||◌ (other m p) (other n q)

  -- it leaves the devices, and the state
  pub devices_stay : (lac : ℕ) (c : Devices) → devices_after i lac c ≡ c
  unfolding devices_after
  devices_stay lac c =
      ap (λ (t : Bool). devices_by t (tcf i) (tpc i) lac c) (neither 0o6032 0o6036 refl refl)
      ∙ ap₂ (λ (t u : Bool). devices_by false t u lac c) (neither 0o6042 0o6046 refl refl) (neither 0o6044 0o6046 refl refl)

  pub state_stays : (c : Devices) (s : State) → state_after i c s ≡ s
  unfolding state_after lac_after
  state_stays c s =
      ap₂ (λ (t u : Bool). with_pc (pick ((t && on c.keyboard) || (u && on c.printer)) (next s.pc) s.pc) (with_lac (lac_by (kcc i) (krs i) c s.lac) s))
      (other 0o6031 refl) (other 0o6041 refl)
      ∙ ap₂ (λ (t u : Bool). with_lac (lac_by t u c s.lac) s) (neither 0o6032 0o6036 refl refl) (neither 0o6034 0o6036 refl refl)

-- ---- a word that prints leaves LAC

prints_lac : (i : ℕ) (c : Devices) (lac : ℕ) → tpc i ≡ true → lac_after i c lac ≡ lac
unfolding lac_after
prints_lac i c lac e =
    either (eqb i 0o6044) (eqb i 0o6046) e
    (λ t. ap (λ (n : ℕ). lac_by (kcc n) (krs n) c lac) (eqb-true i 0o6044 t))
    (λ t. ap (λ (n : ℕ). lac_by (kcc n) (krs n) c lac) (eqb-true i 0o6046 t))

-- so the byte that it prints is the one of the LAC that it finds
pub prints_found : (i : ℕ) (c : Devices) (lac byte : ℕ) → pick (tpc i) (ac_byte (lac_after i c lac)) byte ≡ pick (tpc i) (ac_byte lac) byte
prints_found i c lac byte = go (tpc i) (prints_lac i c lac)
  where
    go : (t : Bool) → (t ≡ true → lac_after i c lac ≡ lac) → pick t (ac_byte (lac_after i c lac)) byte ≡ pick t (ac_byte lac) byte
    go true h = ap ac_byte (h refl)
    go false h = refl
