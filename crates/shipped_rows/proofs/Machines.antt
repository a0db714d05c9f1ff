-- The machine of each variant: its interrupt test, whether a word is one of its devices, its step, and what a step keeps.
-- Assumes nothing.
use mathlib.Core.Path.{◌≡◌, refl, sym, subst}
use mathlib.Core.Bool.{Bool, false}
use Prim.Native.Nat.{ℕ}
use Rattle.word.specs.Choice.{pick}
use Rattle.devices.specs.declared.Devices.{Devices}
use Rattle.machine_state.specs.State.{State, Good, word}
use Rattle.machine_state.specs.Instruction.{is_device}
use Rattle.machine_state.specs.Interrupt.{interrupt_test}
use Rattle.machine_run.specs.Step.{step_with, step}
use Rattle.machine_run.proofs.Keeps.{step_good}
use Rattle.machine_console.specs.Console.{Console, console, line_test, device_step, console_step}
use Rattle.shipped_rows.specs.Variant.{Variant, plain, devices}
use Rattle.devices.proofs.Starts.{Flags}
use Rattle.machine_console.proofs.Keeps.{Flagged, console_flagged}

abbrev pub test_of : Variant → Devices → State → State
test_of plain c = interrupt_test
test_of devices c = line_test c

abbrev pub for_devices : Variant → ℕ → Bool
for_devices plain i = false
for_devices devices i = is_device i

abbrev pub step_of : Variant → Console → Console
step_of v x =
    pick (for_devices v (word x.state.pc x.state)) (device_step x) (console (step_with (test_of v x.devices) x.state) x.devices)

-- without devices it is the machine's own, which leaves what would be theirs; with them that of the machine with keyboard and teleprinter
pub plain_step : (x : Console) → step_of plain x ≡ console (step x.state) x.devices
plain_step x = refl

pub device_step_lem : (x : Console) → step_of devices x ≡ console_step x
unfolding console_step
device_step_lem x = refl

-- the devices' flags are bits, where there are devices
abbrev pub FlagsOf : Variant → Devices → Type 0
FlagsOf plain c = Unit
FlagsOf devices c = Flags c

pub record Sound (v : Variant) (x : Console) : Type 0 where
  pub good : Good x.state
  pub flags : FlagsOf v x.devices

pub step_sound : (v : Variant) {x : Console} → Sound v x → Sound v (step_of v x)
step_sound plain h = record { good = step_good h.good; flags = h.flags }
step_sound devices {x} h =
    let after = subst Flagged (sym (device_step_lem x)) (console_flagged (record { state = h.good; flags = h.flags })) in
    record { good = after.state; flags = after.flags }
