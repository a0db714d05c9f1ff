-- Quiet steps: after the start of a step, and with INTERRUPT.REQUEST refreshed, a step with devices is a plain one until the next device's word.
-- Assumes nothing.
use mathlib.Core.Path.{◌≡◌, refl, sym, ap, ◌∙◌}
use mathlib.Core.Bool.{Bool, true, false}
use mathlib.Core.List.{List}
use Prim.Native.Nat.{ℕ}
use Rattle.word.specs.Choice.{pick}
use Rattle.word.proofs.Choice.{case_true, case_false}
use Rattle.devices.specs.declared.Devices.{Devices}
use Rattle.devices.specs.Devices.{begun, unread_after, printed_after}
use Rattle.devices.specs.Session.{Session}
use Rattle.devices.specs.Session as session
use Rattle.devices.proofs.Starts.{Settled, begun_settled, still_begun, nothing_printed}
use Rattle.machine_state.specs.State.{State, word, with_request}
use Rattle.machine_state.specs.Instruction.{is_device}
use Rattle.machine_state.specs.Interrupt.{interrupt_test}
use Rattle.machine_run.specs.Step.{makes_test, step_with, step}
use Rattle.machine_run.proofs.Advances.{untested_plain}
use Rattle.machine_console.specs.Instructions.{state_after}
use Rattle.machine_console.specs.Console.{Console, console, line, line_test, device_step, console_step, turn}
use Rattle.machine_console.proofs.Request.{step_leaves, tested_alike, untested_alike, same_test}

-- a session of the machine, and one whose step left x
abbrev pub standing : State → Devices → List ℕ → List ℕ → Session Console
standing s c l p = record { engine = console s c; unread = l; printed = p }

abbrev pub finished : Console → List ℕ → List ℕ → Session Console
finished x l p = record { engine = x; unread = l; printed = printed_after x.devices p }

-- nothing arrives or rises, no mark stands, and INTERRUPT.REQUEST is the line's
pub record Quiet (s : State) (c : Devices) (l : List ℕ) : Type 0 where
  pub settled : Settled c l
  pub request : s.request ≡ line c

-- ---- a step on settled devices

settled_turn : (s : State) {c : Devices} {l : List ℕ} (p : List ℕ) → Settled c l → turn (standing s c l p) ≡ finished (console_step (console s c)) l p
unfolding session.turn
settled_turn s {c} {l} p t =
    ap (λ (d : Devices). finished (console_step (console s d)) (unread_after c l) p) (still_begun t)
    ∙ ap (λ (m : List ℕ). finished (console_step (console s c)) m p) t.unread

plain_step : (s : State) (c : Devices) → is_device (word s.pc s) ≡ false → console_step (console s c) ≡ console (step_with (line_test c) s) c
unfolding console_step
plain_step s c e = case_false (is_device (word s.pc s)) (device_step (console s c)) (console (step_with (line_test c) s) c) e

device_step_lem : (s : State) (c : Devices) → is_device (word s.pc s) ≡ true → console_step (console s c) ≡ device_step (console s c)
unfolding console_step
device_step_lem s c e = case_true (is_device (word s.pc s)) (device_step (console s c)) (console (step_with (line_test c) s) c) e

-- a step that leaves the devices settled prints nothing
pub unprinted : (s : State) {c : Devices} {l : List ℕ} (p : List ℕ) → Settled c l → finished (console s c) l p ≡ standing s c l p
unprinted s {c} {l} p t = ap (λ (q : List ℕ). standing s c l q) (nothing_printed p t)

-- no device's word: the step is a plain one, and all stays quiet
pub quiet_turn : (s : State) (c : Devices) (l p : List ℕ) → Quiet s c l → is_device (word s.pc s) ≡ false
    → turn (standing s c l p) ≡ standing (step s) c l p
quiet_turn s c l p q e =
    settled_turn s p q.settled
    ∙ ap (λ (x : Console). finished x l p) (plain_step s c e ∙ ap (λ (z : State). console z c) (same_test s c q.request))
    ∙ unprinted (step s) p q.settled

pub quiet_stays : {s : State} {c : Devices} {l : List ℕ} → Quiet s c l → Quiet (step s) c l
quiet_stays {s} q = record { settled = q.settled; request = step_leaves s ∙ q.request }

-- a device's word: its own step, whatever INTERRUPT.REQUEST was
pub device_turn_lem : (s : State) (c : Devices) (l p : List ℕ) → Settled c l → is_device (word s.pc s) ≡ true
    → turn (standing s c l p) ≡ finished (device_step (console s c)) l p
device_turn_lem s c l p t e = settled_turn s p t ∙ ap (λ (x : Console). finished x l p) (device_step_lem s c e)

-- ---- the start of a step

-- INTERRUPT.REQUEST refreshed before a step that makes a test changes nothing of it
both_ways : {A : Type 0} (b : Bool) {u v x y : A} → u ≡ x → v ≡ y → pick b u v ≡ pick b x y
both_ways true p q = p
both_ways false p q = q

step_refreshed : (s : State) (c : Devices) → makes_test (word s.pc s) ≡ true → console_step (console s c) ≡ console_step (console (with_request (line c) s) c)
unfolding console_step device_step state_after line_test
step_refreshed s c e =
    both_ways (is_device (word s.pc s)) refl
    (ap (λ (z : State). console z c) (tested_alike s c e ∙ sym (same_test (with_request (line c) s) c refl)))

pub tested_turn : (s : State) (c : Devices) (l p : List ℕ) → makes_test (word s.pc s) ≡ true
    → turn (standing s c l p) ≡ turn (standing (with_request (line (begun c l)) s) (begun c l) (unread_after c l) p)
unfolding session.turn
tested_turn s c l p e =
    ap (λ (x : Console). finished x (unread_after c l) p) (step_refreshed s (begun c l) e)
    ∙ sym (settled_turn (with_request (line (begun c l)) s) p (begun_settled c l))

pub untested_turn : (s : State) (c : Devices) (l p : List ℕ) → makes_test (word s.pc s) ≡ false
    → turn (standing s c l p) ≡ standing (step s) (begun c l) (unread_after c l) p
unfolding session.turn
untested_turn s c l p e =
    let d = begun c l in
    ap (λ (x : Console). finished x (unread_after c l) p)
    (plain_step s d (untested_plain (word s.pc s) e) ∙ ap (λ (z : State). console z d) (untested_alike s (line_test d) interrupt_test e))
    ∙ unprinted (step s) p (begun_settled c l)
