-- A device's word, as the code makes its step.
-- Assumes nothing.
use mathlib.Core.Path.{◌≡◌, sym, ap, ap₂, ◌∙◌, subst}
use Prim.Native.Nat.{ℕ, ◌+◌, ◌*◌, ◌/◌, ◌%◌, ◌^◌, ◌<◌}
use native.Mathlib.Omega.{arith}
use lib.Bits.{bit_or, or_lt}
use lib.ListN.{length}
use Rattle.word.specs.Choice.{pick}
use Rattle.word.specs.Word.{word_bits, next}
use Rattle.word.proofs.Choice.{pick_either}
use Rattle.word.proofs.Next.{next_lt}
use Rattle.devices.specs.declared.Devices.{Devices}
use Rattle.devices.specs.Devices.{byte_bits, DevicesFit}
use Rattle.devices.proofs.Starts.{fit_flags}
use Rattle.machine_state.specs.State.{State, Good, word, with_lac, with_pc, with_request, with_ac}
use Rattle.machine_state.specs.Interrupt.{interrupt_test}
use Rattle.machine_console.specs.Instructions.{skips_on_flag, kcc, krs, tcf, tpc, ac_byte, with_ac_byte, lac_after, devices_after, state_after}
use Rattle.machine_console.specs.Console.{console, line, line_test, tested, device_step}
use Rattle.machine_console.proofs.Keeps.{line_lt, devices_fit}

-- a byte or'd into AC<4:11>
byte_is : (lac : ℕ) → lac % 256 ≡ ac_byte lac
byte_is lac = omega arith

byte_put : (lac x : ℕ) → x < 2 ^ byte_bits → lac / 256 * 256 + x ≡ with_ac_byte lac x
byte_put lac x h = omega arith

pub byte_or : (lac byte : ℕ) → byte < 2 ^ byte_bits → lac / 256 * 256 + bit_or (lac % 256) byte ≡ with_ac_byte lac (bit_or (ac_byte lac) byte)
byte_or lac byte h =
    byte_put lac (bit_or (lac % 256) byte) (or_lt byte_bits (lac % 256) byte (omega arith) h)
    ∙ ap (λ (x : ℕ). with_ac_byte lac (bit_or x byte)) (byte_is lac)

-- LAC after KCC, KRS and KRB: AC cleared, then the byte or'd into it
ac_cleared : (lac : ℕ) → lac / 4096 * 4096 ≡ with_ac lac 0
ac_cleared lac = omega arith

pub accumulated_is : (i : ℕ) (c : Devices) (lac a b r : ℕ) → a ≡ pick (kcc i) (lac / 4096 * 4096) lac → b ≡ with_ac_byte a (bit_or (ac_byte a) c.key) → r ≡ pick (krs i) b a
    → r ≡ lac_after i c lac
unfolding lac_after
accumulated_is i c lac a b r p q e =
    e ∙ ap (λ (x : ℕ). pick (krs i) x a) q
    ∙ ap (λ (x : ℕ). pick (krs i) (with_ac_byte x (bit_or (ac_byte x) c.key)) x) (p ∙ ap (λ (x : ℕ). pick (kcc i) x lac) (ac_cleared lac))

-- the devices after a word, register by register
pub changed_is : (i lac : ℕ) (c : Devices) (keyboard printer print mark : ℕ) → keyboard ≡ pick (kcc i) 0 c.keyboard → printer ≡ pick (tcf i) 0 c.printer
    → print ≡ pick (tpc i) (lac % 256) c.print → mark ≡ pick (tpc i) 1 c.mark
    → ◌≡◌ {A = Devices} (record { key = c.key; keyboard = keyboard; printer = printer; print = print; mark = mark }) (devices_after i lac c)
unfolding devices_after
changed_is i lac c keyboard printer print mark k t b m =
    ap (λ (x : ℕ). record { key = c.key; keyboard = x; printer = printer; print = print; mark = mark }) k
    ∙ ap (λ (x : ℕ). record { key = c.key; keyboard = pick (kcc i) 0 c.keyboard; printer = x; print = print; mark = mark }) t
    ∙ ap₂
    (λ (x y : ℕ). record { key = c.key; keyboard = pick (kcc i) 0 c.keyboard; printer = pick (tcf i) 0 c.printer; print = x; mark = y })
    (b ∙ ap (λ (x : ℕ). pick (tpc i) x c.print) (byte_is lac)) m

-- the word i, PC increased to n and then k, LAC a, the devices d and the request r
module _ (s : State) (c : Devices) (i n k a r : ℕ) (d : Devices) (fetched : i ≡ word s.pc s) (increased : n ≡ next s.pc)
    (skipped : k ≡ pick (skips_on_flag i c) (next n) n) (accumulated : a ≡ lac_after i c s.lac) (changed : d ≡ devices_after i s.lac c) (requested : r ≡ line d) where
  abbrev executed : State
  executed = with_request r (with_pc k (with_lac a s))

  pub word_done : (x : State) → x ≡ interrupt_test executed → console x d ≡ device_step (console s c)
  unfolding device_step state_after line_test
  word_done x e =
      let after = devices_after i s.lac c in
      let skip = pick (skips_on_flag i c) (next n) n in
      ap (λ (z : State). console z d) e
      ∙ ap (λ (z : ℕ). console (interrupt_test (with_request z (with_pc k (with_lac a s)))) d) requested
      ∙ ap (λ (z : Devices). console (interrupt_test (with_request (line z) (with_pc k (with_lac a s)))) z) changed
      ∙ ap (λ (z : ℕ). console (interrupt_test (with_request (line after) (with_pc z (with_lac a s)))) after) skipped
      ∙ ap (λ (z : ℕ). console (interrupt_test (with_request (line after) (with_pc skip (with_lac z s)))) after) accumulated
      ∙ ap (λ (z : ℕ). tested (console (state_after i c (with_pc z s)) after)) increased
      ∙ ap (λ (z : ℕ). tested (console (state_after z c (with_pc (next s.pc) s)) (devices_after z s.lac c))) fetched

  pub word_tests : Good s → DevicesFit c → (0 < length s.memory) × ((k < 2 ^ word_bits) × ((s.enable < 2) × (r < 2)))
  word_tests g f =
      let within : n < 2 ^ word_bits = subst (λ (z : ℕ). z < 2 ^ word_bits) (sym increased) (next_lt s.pc) in
      let size = g.memory.size in
      let skip = subst (λ (z : ℕ). z < 2 ^ word_bits) (sym skipped) (pick_either (λ (z : ℕ). z < 2 ^ word_bits) (skips_on_flag i c) (next_lt n) within) in
      let flags = subst (λ (z : ℕ). z < 2) (sym requested) (line_lt (fit_flags (subst DevicesFit (sym changed) (devices_fit i s.lac f)))) in
      (omega (arith, size), (skip, (g.enable, flags)))
