-- A run by cycles of the shipped rows and a run by steps of the machine end alike, without devices and with them.
-- Assumes nothing.
use mathlib.Core.Path.{◌≡◌, refl, ap, ◌∙◌, subst}
use mathlib.Core.Bool.{true}
use mathlib.Core.List.{List, [], ◌∷◌}
use Prim.Native.Nat.{ℕ}
use lib.ListN.{get_or}
use Rattle.word.specs.Choice.{on}
use Rattle.runs.proofs.Alike.{Alike}
use Rattle.runs.proofs.Alike as runs
use Rattle.devices.specs.declared.Devices.{Devices}
use Rattle.devices.specs.Devices.{begun}
use Rattle.devices.specs.Session.{opened}
use Rattle.devices.proofs.Sessions.{Paired}
use Rattle.devices.proofs.Sessions as sessions
use Rattle.machine_state.specs.State.{State}
use Rattle.machine_run.specs.Step.{step}
use Rattle.machine_run.specs.Run as steps
use Rattle.machine_console.specs.Console.{Console, console, console_step, attached}
use Rattle.machine_console.specs.Console as consoles
use Rattle.characters.specs.Characters.{same}
use Rattle.characters.specs.Named.{find}
use Rattle.text_declaration.specs.Rows.{Description}
use Rattle.text_description.specs.Description.{run_name}
use Rattle.rows_value.specs.Value as rows
use Rattle.rows_cycles.specs.Cycle.{Cycle, cycle}
use Rattle.rows_cycles.specs.Run as cycles
use Rattle.rows_cycles.specs.Run.{goes_on, from_last, at_entry, running}
use Rattle.rows_cycles.specs.Devices.{has_devices, device_places, devices_at, with_devices, attached_at, run_devices}
use Rattle.shipped_rows.specs.Variant.{Variant, plain, devices}
use Rattle.shipped_rows.specs.Shipped.{shipped}
use Rattle.shipped_rows.proofs.Accepted.{shipped_is}
use Rattle.shipped_rows.proofs.Places.{Work, Fit, in_places}
use Rattle.devices.proofs.Starts.{begun_flags}
use Rattle.shipped_rows.proofs.Machines.{step_of, device_step_lem, Sound, step_sound}
use Rattle.shipped_rows.proofs.Cycles.{cycles_step}

-- RUN is the machine's
run_place : (v : Variant) → find run_name (shipped v).registers ≡ 2
unfolding find same
run_place v = ap (λ (d : Description). find run_name d.registers) (shipped_is v)

pub running_in_places : (v : Variant) (x : Console) (w : Work) → running (shipped v) (in_places v x.devices x.state w) ≡ x.state.run
running_in_places v x w = ap (λ (k : ℕ). get_or (in_places v x.devices x.state w).registers k 0) (run_place v)

-- the machine and the state that a cycle left: sound, in its places, beside working registers that fit
pub record Beside (v : Variant) (x : Console) (c : Cycle) : Type 0 where
  pub work : Work
  pub sound : Sound v x
  pub fits : Fit work
  pub is : c.state ≡ in_places v x.devices x.state work

-- RUN is the same
pub same_run : (v : Variant) (x : Console) (c : Cycle) → Beside v x c → running (shipped v) c.state ≡ x.state.run
same_run v x c b = ap (running (shipped v)) b.is ∙ running_in_places v x b.work

beside_after : (v : Variant) (x : Console) (c : Cycle) → Beside v x c → Beside v (step_of v x) (cycle (shipped v).rows c.state)
beside_after v x c b =
    let next = cycles_step v b.sound b.fits in
    record {
      work = next.0;
      sound = step_sound v b.sound;
      fits = next.1;
      is = ap (λ (s : rows.State). (cycle (shipped v).rows s).state) b.is ∙ next.2;
    }

-- ---- without devices: what would be theirs stays as it is

pub runs_alike : (c : Devices) (budget : ℕ) (o : State) (s : rows.State) → Beside plain (console o c) (at_entry s)
    → Alike (λ (a : State). Beside plain (console a c)) (steps.run budget o) (cycles.run (shipped plain) budget s)
runs_alike c budget o s b =
    runs.runs_alike (λ (a : State). Beside plain (console a c)) steps.running step (goes_on (running (shipped plain))) (from_last (cycle (shipped plain).rows))
    (λ a t r. ap on (same_run plain (console a c) t r)) (λ a t r. beside_after plain (console a c) t r) budget o (at_entry s) b

-- ---- with devices

-- the five are the places past the machine's six
device_places_lem : device_places (shipped devices) ≡ 6 ∷ 7 ∷ 8 ∷ 9 ∷ 10 ∷ []
unfolding find same
device_places_lem = ap device_places (shipped_is devices)

pub has_devices_lem : has_devices (shipped devices) ≡ true
unfolding find same
has_devices_lem = ap has_devices (shipped_is devices)

same_devices : (x : Console) (c : Cycle) → Beside devices x c → devices_at (device_places (shipped devices)) c.state ≡ x.devices
same_devices x c b =
    ap (devices_at (device_places (shipped devices))) b.is
    ∙ ap (λ (l : List ℕ). devices_at l (in_places devices x.devices x.state b.work)) device_places_lem

-- a start fills them
begins : (x : Console) (c : Cycle) (l : List ℕ) → Beside devices x c
    → Beside devices (attached.put (begun x.devices l) x) ((attached_at (device_places (shipped devices))).put (begun x.devices l) c)
begins x c l b =
    record {
      work = b.work;
      sound = record { good = b.sound.good; flags = begun_flags l b.sound.flags };
      fits = b.fits;
      is =
          ap (with_devices (device_places (shipped devices)) (begun x.devices l)) b.is
          ∙ ap (λ (p : List ℕ). with_devices p (begun x.devices l) (in_places devices x.devices x.state b.work)) device_places_lem;
    }

pub sessions_alike : (room budget : ℕ) (x : Console) (s : rows.State) (input : List ℕ) → Beside devices x (at_entry s)
    → Alike (Paired (Beside devices)) (consoles.run room budget (opened x input)) (run_devices (shipped devices) room budget s input)
sessions_alike room budget x s input b =
    sessions.sessions_alike (Beside devices) attached (attached_at (device_places (shipped devices))) consoles.running (goes_on (running (shipped devices)))
    console_step (from_last (cycle (shipped devices).rows))
    (λ a t r. ap on (same_run devices a t r))
    same_devices
    begins
    (λ a t r. subst (λ (y : Console). Beside devices y (cycle (shipped devices).rows t.state)) (device_step_lem a) (beside_after devices a t r))
    room budget (opened x input) (opened (at_entry s) input)
    (record { engine = b; unread = refl; printed = refl })
