-- The emulator's checks find nothing exactly where every word and register fits and the budget is within its limit: so a run starts from a
-- good state, and no good state is turned down.
-- Assumes nothing.
use mathlib.Core.Path.{◌≡◌, refl}
use mathlib.Core.Bool.{Bool, true, ◌&&◌}
use mathlib.Core.List.{List, [], ◌∷◌, ◌++◌}
use Prim.Native.Nat.{ℕ, zero, suc, ◌≤◌, ◌<◌, ◌^◌}
use borrow.Author.Tests.{leb-true}
use lib.Dec.{leb, lit≤, lit<}
use lib.ListN.{get_or}
use Rattle.laws.proofs.Joined.{and_left, and_right}
use Rattle.word.specs.Word.{widest}
use Rattle.state.specs.Limits.{budget_limit}
use Rattle.state.specs.Checks.{check_state}
use Rattle.state.specs.Acceptable.{Fitting}
use Rattle.std.specs.Prelude.{Ok}
use Rattle.state.proofs.Accepted.{state_sound, sound_state}
use Rattle.machine_state.specs.declared.Machine.{Machine}
use Rattle.machine_state.specs.State.{start, Good}
use Rattle.machine_state.specs.Registers.{widths, values}
use Rattle.machine_state.proofs.Places.{by_register}
use Rattle.devices.specs.declared.Devices.{Devices}
use Rattle.devices.specs.Devices.{device_widths, device_values, DevicesFit}
use Rattle.devices.proofs.Starts.{fit_narrow}

-- ---- no register is wider than 16 bits

abbrev all_narrow : List ℕ → Bool
all_narrow [] = true
all_narrow (w ∷ ws) = leb w widest && all_narrow ws

narrow_at : (l : List ℕ) → all_narrow l ≡ true → (k : ℕ) → get_or l k 0 ≤ widest
narrow_at [] e k = lit≤ tt
narrow_at (w ∷ ws) e zero = leb-true w widest (and_left (leb w widest) (all_narrow ws) e)
narrow_at (w ∷ ws) e (suc k) = narrow_at ws (and_right (leb w widest) (all_narrow ws) e) k

pub widths_small : (k : ℕ) → get_or widths k 0 ≤ widest
widths_small = narrow_at widths refl

pub all_widths_small : (k : ℕ) → get_or (widths ++ device_widths) k 0 ≤ widest
all_widths_small = narrow_at (widths ++ device_widths) refl

-- ---- what passes is good, and what is good passes

-- what passes the checks is a good state
pub checked_good : (m : Machine) (memory : List ℕ) (budget : ℕ) → check_state widths (values m) memory budget ≡ Ok tt → Good (start m memory)
checked_good m memory budget e =
    let sound = state_sound widths (values m) memory budget e in
    let fit = sound.1.narrow in
    record { lac = fit 0; pc = fit 1; run = fit 2; enable = fit 3; request = fit 4; switches = fit 5; memory = sound.0 }

-- the values of a good state fit their places
pub good_fitting : (m : Machine) (memory : List ℕ) → Good (start m memory) → Fitting widths (values m)
good_fitting m memory g =
    record {
      narrow =
          by_register (λ (k : ℕ). get_or (values m) k 0 < 2 ^ get_or widths k 0) g.lac g.pc g.run g.enable g.request g.switches
          (λ k. lit< tt);
    }

-- and a good state passes them
pub good_checked : (m : Machine) (memory : List ℕ) (budget : ℕ) → Good (start m memory) → budget ≤ budget_limit
    → check_state widths (values m) memory budget ≡ Ok tt
good_checked m memory budget g h = sound_state widths (values m) memory budget g.memory (good_fitting m memory g) h

-- with devices: theirs fit, too
pub checked_fit : (m : Machine) (c : Devices) (memory : List ℕ) (budget : ℕ) → check_state (widths ++ device_widths) (values m ++ device_values c) memory budget ≡ Ok tt
    → Good (start m memory) × DevicesFit c
checked_fit m c memory budget e =
    let sound = state_sound (widths ++ device_widths) (values m ++ device_values c) memory budget e in
    let fit = sound.1.narrow in (
      record { lac = fit 0; pc = fit 1; run = fit 2; enable = fit 3; request = fit 4; switches = fit 5; memory = sound.0 },
      record { key = fit 6; keyboard = fit 7; printer = fit 8; print = fit 9; mark = fit 10 },
    )

pub fit_checked : (m : Machine) (c : Devices) (memory : List ℕ) (budget : ℕ) → Good (start m memory) → DevicesFit c → budget ≤ budget_limit
    → check_state (widths ++ device_widths) (values m ++ device_values c) memory budget ≡ Ok tt
fit_checked m c memory budget g f h =
    sound_state (widths ++ device_widths) (values m ++ device_values c) memory budget g.memory
    (record {
      narrow =
          by_register (λ (k : ℕ). get_or (values m ++ device_values c) k 0 < 2 ^ get_or (widths ++ device_widths) k 0) g.lac g.pc g.run g.enable g.request
          g.switches (fit_narrow f);
    })
    h
