-- No turn of a sitting is refused: it begins with registers that fit, and each turn leaves such ones and an acceptable memory. So a sitting ends where the machine has
-- halted or no step is left, and its last line says which.
-- Assumes nothing.
use mathlib.Core.Path.{◌≡◌, sym, ap, subst}
use mathlib.Core.Bool.{◌&&◌}
use mathlib.Core.List.{List}
use Prim.Native.Nat.{ℕ, ◌≤◌}
use native.Mathlib.Omega.{arith}
use lib.Dec.{eqb, ltb, lit≤, lit<}
use lib.ListN.{length}
use borrow.Author.Tests.{ltb-true}
use Rattle.laws.proofs.Tests.{by_case}
use Rattle.word.specs.Choice.{on}
use Rattle.state.specs.Limits.{budget_limit}
use Rattle.state.specs.Acceptable.{Acceptable}
use Rattle.runs.specs.Run.{Ended}
use Rattle.devices.specs.Devices.{DevicesFit}
use Rattle.devices.specs.Held.{Bytes}
use Rattle.devices.specs.Session.{Session, opened}
use Rattle.machine_state.specs.State.{start, Good}
use Rattle.machine_console.specs.Console.{Console, console, run}
use Rattle.machine_console.proofs.Keeps.{SessionFit, run_fits}
use Rattle.emulator.specs.Emulate.{DeviceReport, finished_devices}
use Rattle.emulator.proofs.TwoCalls.{run_of}
use Rattle.desk_teletype.specs.declared.Sitting.{Sitting}
use Rattle.desk_teletype.specs.Sitting.{opening, turn_steps, portion, outcome, turn}

-- what a turn begins from
pub record Sound (s : Sitting) (memory : List ℕ) : Type 0 where
  pub machine : Good (start s.machine memory)
  pub devices : DevicesFit s.devices

pub opening_sound : (budget : ℕ) (memory : List ℕ) → Acceptable memory → Sound (opening budget) memory
opening_sound budget memory a =
    record {
      machine = record { lac = lit< tt; pc = lit< tt; run = lit< tt; enable = lit< tt; request = lit< tt; switches = lit< tt; memory = a };
      devices = record { key = lit< tt; keyboard = lit< tt; printer = lit< tt; print = lit< tt; mark = lit< tt };
    }

portion_few : (left : ℕ) → portion left ≤ budget_limit
unfolding portion
portion_few left = by_case (λ (n : ℕ). n ≤ budget_limit) (ltb left turn_steps) (λ t. omega (arith, ltb-true left turn_steps t)) (λ t. lit≤ tt)

module _ (s : Sitting) (memory input output : List ℕ) (f : Sound s memory) where
  abbrev from : Session Console
  from = opened (console (start s.machine memory) s.devices) input

  abbrev ran : Ended (Session Console)
  ran = run (length output) (portion s.left) from

  abbrev o : DeviceReport
  o = outcome s memory input output

  turn_runs : o ≡ finished_devices input output ran
  unfolding outcome
  turn_runs = run_of s.machine s.devices memory (portion s.left) input output f.machine f.devices (portion_few s.left)

  pub turn_accepted : o.report.number ≡ 0
  turn_accepted = ap (λ (d : DeviceReport). d.report.number) turn_runs

  pub turn_follows : (turn s o).more ≡ (on (turn s o).sitting.machine.run && on (turn s o).sitting.left)
  turn_follows = ap (λ (n : ℕ). eqb n 0 && on (turn s o).sitting.machine.run && on (turn s o).sitting.left) turn_accepted

  -- and the next turn begins from such, too
  pub turn_sound : Bytes input → Sound (turn s o).sitting o.report.memory
  turn_sound bytes =
      let fits : SessionFit ran.left = run_fits (length output) (portion s.left) {x = from} (record { engine = record { state = f.machine; devices = f.devices }; unread = bytes }) in
      subst (λ (d : DeviceReport). Sound (turn s d).sitting d.report.memory) (sym turn_runs) (record { machine = fits.engine.state; devices = fits.engine.devices })
