-- The start of a step leaves devices on which another start has no effect: nothing arrives, nothing rises, and no mark stands. And it keeps widths.
-- Assumes nothing.
use mathlib.Core.Path.{◌≡◌, refl, sym, ap, ◌∙◌, subst}
use mathlib.Core.Bool.{Bool, true, false}
use mathlib.Core.List.{List, [], ◌∷◌, ◌++◌}
use Prim.Native.Nat.{ℕ, zero, suc, ◌^◌, ◌<◌}
use native.Mathlib.Omega.{arith}
use lib.ListN.{length, drop, get_or}
use lib.Dec.{lit<}
use Rattle.laws.proofs.Tests.{by_test}
use Rattle.word.specs.Choice.{on, pick}
use Rattle.word.proofs.Choice.{pick_either, case_true, case_false}
use Rattle.devices.specs.declared.Devices.{Devices}
use Rattle.devices.specs.Devices.{device_widths, device_values, DevicesFit, received, arrived, unread_after, risen, begun, printed_after}
use Rattle.devices.specs.Held.{Bytes}

-- devices with another printer flag and mark
abbrev pub with_printer : ℕ → ℕ → Devices → Devices
with_printer flag mark c = record { key = c.key; keyboard = c.keyboard; printer = flag; print = c.print; mark = mark }

-- and with another byte and flag of the keyboard
abbrev pub with_key : ℕ → ℕ → Devices → Devices
with_key byte flag c = record { key = byte; keyboard = flag; printer = c.printer; print = c.print; mark = c.mark }

pub record Settled (c : Devices) (l : List ℕ) : Type 0 where
  pub arrived : arrived c l ≡ c
  pub unread : unread_after c l ≡ l
  pub mark : on c.mark ≡ false

pick_same : {A : Type 0} (b : Bool) (x : A) → pick b x x ≡ x
pick_same true x = refl
pick_same false x = refl

-- the flag is up, and no mark stands
settled_on : (c : Devices) (l : List ℕ) → on c.keyboard ≡ true → on c.mark ≡ false → Settled c l
unfolding arrived unread_after
settled_on c l e f =
    record { arrived = case_true (on c.keyboard) c (received c l) e; unread = case_true (on c.keyboard) l (drop 1 l) e; mark = f }

-- nothing is unread, and no mark stands
settled_empty : (c : Devices) → on c.mark ≡ false → Settled c []
unfolding arrived unread_after
settled_empty c f = record { arrived = pick_same (on c.keyboard) c; unread = pick_same (on c.keyboard) []; mark = f }

-- a rise takes the mark away and leaves the keyboard
risen_mark : (c : Devices) → on (risen c).mark ≡ false
unfolding risen
risen_mark c =
    by_test (on c.mark)
    (λ t. ap (λ (d : Devices). on d.mark) (case_true (on c.mark) (with_printer 1 0 c) c t))
    (λ t. ap (λ (d : Devices). on d.mark) (case_false (on c.mark) (with_printer 1 0 c) c t) ∙ t)

risen_flag : (c : Devices) → (risen c).keyboard ≡ c.keyboard
unfolding risen
risen_flag c = pick_either (λ (d : Devices). d.keyboard ≡ c.keyboard) (on c.mark) refl refl

-- what arrived and what is left are known
settles : (c d : Devices) (l m : List ℕ) → arrived c l ≡ d → unread_after c l ≡ m → Settled (risen d) m → Settled (begun c l) (unread_after c l)
unfolding begun
settles c d l m e f t =
    subst (λ (x : Devices). Settled (risen x) (unread_after c l)) (sym e) (subst (λ (x : List ℕ). Settled (risen d) x) (sym f) t)

settles_off : (c : Devices) (l : List ℕ) → on c.keyboard ≡ false → Settled (begun c l) (unread_after c l)
unfolding arrived unread_after
settles_off c [] e =
    settles c c [] [] (pick_same (on c.keyboard) c) (pick_same (on c.keyboard) []) (settled_empty (risen c) (risen_mark c))
settles_off c (b ∷ l) e =
    let d = with_key b 1 c in
    settles c d (b ∷ l) l (case_false (on c.keyboard) c d e) (case_false (on c.keyboard) (b ∷ l) l e)
    (settled_on (risen d) l (ap on (risen_flag d)) (risen_mark d))

pub begun_settled : (c : Devices) (l : List ℕ) → Settled (begun c l) (unread_after c l)
unfolding arrived unread_after
begun_settled c l =
    by_test (on c.keyboard)
    (λ e. settles c c l l (case_true (on c.keyboard) c (received c l) e) (case_true (on c.keyboard) l (drop 1 l) e)
    (settled_on (risen c) l (ap on (risen_flag c) ∙ e) (risen_mark c)))
    (settles_off c l)

-- on settled devices a start has no effect, and a step that leaves them prints nothing
pub still_begun : {c : Devices} {l : List ℕ} → Settled c l → begun c l ≡ c
unfolding begun risen
still_begun {c} t = ap risen t.arrived ∙ case_false (on c.mark) (with_printer 1 0 c) c t.mark

-- nor has one that leaves the input as it was, where no mark stands: nothing arrived
still_received : (c : Devices) (l : List ℕ) → drop 1 l ≡ l → received c l ≡ c
still_received c [] e = refl
still_received c (b ∷ l) e = let same : length l ≡ length (b ∷ l) = ap length e in absurd (omega (arith, same))

pub still_unread : (c : Devices) (l : List ℕ) → l ≡ unread_after c l → c.mark ≡ 0 → begun c l ≡ c
unfolding arrived unread_after
still_unread c l e f =
    still_begun
    (record {
      arrived =
          by_test (on c.keyboard)
          (λ t. case_true (on c.keyboard) c (received c l) t)
          (λ t. case_false (on c.keyboard) c (received c l) t ∙ still_received c l (sym (e ∙ case_false (on c.keyboard) l (drop 1 l) t)));
      unread = sym e;
      mark = ap on f;
    })

pub nothing_printed : {c : Devices} {l : List ℕ} (p : List ℕ) → Settled c l → printed_after c p ≡ p
unfolding printed_after
nothing_printed {c} p t = case_false (on c.mark) (p ++ (c.print ∷ [])) p t.mark

-- ---- a start keeps widths

received_fit : {c : Devices} (l : List ℕ) → Bytes l → DevicesFit c → DevicesFit (received c l)
received_fit [] h f = f
received_fit (b ∷ l) h f =
    record { key = h.each 0; keyboard = lit< tt; printer = f.printer; print = f.print; mark = f.mark }

pub begun_fit : {c : Devices} {l : List ℕ} → Bytes l → DevicesFit c → DevicesFit (begun c l)
unfolding begun risen arrived
begun_fit {c} {l} h f =
    let g = pick_either DevicesFit (on c.keyboard) f (received_fit l h f) in
    pick_either DevicesFit (on (arrived c l).mark)
    (record { key = g.key; keyboard = g.keyboard; printer = lit< tt; print = g.print; mark = lit< tt })
    g

rest_bytes : (l : List ℕ) → Bytes l → Bytes (drop 1 l)
rest_bytes [] h = h
rest_bytes (b ∷ l) h = record { each = λ k. h.each (suc k) }

pub unread_bytes : (c : Devices) {l : List ℕ} → Bytes l → Bytes (unread_after c l)
unfolding unread_after
unread_bytes c {l} h = pick_either Bytes (on c.keyboard) h (rest_bytes l h)

-- ---- the flags alone, whatever bytes arrive

pub record Flags (c : Devices) : Type 0 where
  pub keyboard : c.keyboard < 2
  pub printer : c.printer < 2

pub fit_flags : {c : Devices} → DevicesFit c → Flags c
fit_flags f = record { keyboard = f.keyboard; printer = f.printer }

received_flags : {c : Devices} (l : List ℕ) → Flags c → Flags (received c l)
received_flags [] f = f
received_flags (b ∷ l) f = record { keyboard = lit< tt; printer = f.printer }

pub begun_flags : {c : Devices} (l : List ℕ) → Flags c → Flags (begun c l)
unfolding begun risen arrived
begun_flags {c} l f =
    let g = pick_either Flags (on c.keyboard) f (received_flags l f) in
    pick_either Flags (on (arrived c l).mark) (record { keyboard = g.keyboard; printer = lit< tt }) g

-- ---- widths by place

-- the devices' registers fit, place by place; past the last there is none
pub fit_narrow : {c : Devices} → DevicesFit c → (k : ℕ) → get_or (device_values c) k 0 < 2 ^ get_or device_widths k 0
fit_narrow f zero = f.key
fit_narrow f (suc zero) = f.keyboard
fit_narrow f (suc (suc zero)) = f.printer
fit_narrow f (suc (suc (suc zero))) = f.print
fit_narrow f (suc (suc (suc (suc zero)))) = f.mark
fit_narrow f (suc (suc (suc (suc (suc k))))) = lit< tt
