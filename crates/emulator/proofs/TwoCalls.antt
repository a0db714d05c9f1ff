-- Two calls of the emulator with devices are one: the second from what the first left, on the input that it left unread and into the rest of the output.
-- Assumes nothing.
use mathlib.Core.Path.{◌≡◌, sym, ap, ap₂, ◌∙◌}
use mathlib.Core.Bool.{Bool}
use mathlib.Core.List.{List}
use Prim.Native.Nat.{ℕ, ◌+◌, ◌-◌, ◌≤◌}
use native.Mathlib.Omega.{arith}
use lib.Dec.{ltb}
use lib.ListN.{length, drop, length-drop}
use Rattle.state.specs.Limits.{budget_limit}
use Rattle.state.specs.Refusals.{Verdict, reason_with}
use Rattle.std.specs.Prelude.{Ok, Err}
use Rattle.runs.specs.Run.{Ended, ended}
use Rattle.devices.specs.declared.Devices.{Devices}
use Rattle.devices.specs.Devices.{DevicesFit}
use Rattle.devices.specs.Session.{Session, place_left, opened, Exchange}
use Rattle.devices.specs.Held.{Bytes}
use Rattle.devices.proofs.Split.{behind, handed_on, place_behind, session_split, unread_handed, joined_exchange, exchange_split}
use Rattle.machine_state.specs.declared.Machine.{Machine}
use Rattle.machine_state.specs.State.{State, Good, start, registers}
use Rattle.machine_console.specs.Console.{Console, console, attached, running, console_step, run}
use Rattle.machine_console.proofs.Keeps.{SessionFit, run_fits}
use Rattle.emulator.specs.Emulate.{DeviceReport, finished_devices, refused_devices, emulate_devices, ran}
use Rattle.emulator.proofs.Starts.{fit_checked}

-- the answer of a run that no check turns down
pub run_of : (m : Machine) (c : Devices) (memory : List ℕ) (budget : ℕ) (input output : List ℕ) → Good (start m memory) → DevicesFit c → budget ≤ budget_limit
    → emulate_devices m c memory budget input output ≡ finished_devices input output (run (length output) budget (opened (console (start m memory) c) input))
unfolding emulate_devices
run_of m c memory budget input output g f h =
    ap (λ (v : Verdict). by_verdict v) (fit_checked m c memory budget g f h)
  where
    by_verdict : Verdict → DeviceReport
    by_verdict (Ok fit) = finished_devices input output (run (length output) budget (opened (console (start m memory) c) input))
    by_verdict (Err why) = refused_devices why m c memory output

-- two answers as one: the steps of both, and what the second left
abbrev pub joined : DeviceReport → DeviceReport → DeviceReport
joined f g =
    record {
      report =
          record {
            number = g.report.number;
            place = g.report.place;
            steps = f.report.steps + g.report.steps;
            reason = g.report.reason;
            machine = g.report.machine;
            memory = g.report.memory;
          };
      devices = g.devices;
      exchange = joined_exchange f.exchange g.exchange;
    }

-- the second call: from what the first left, on the input that it left unread and into the rest of the output
abbrev pub second : DeviceReport → ℕ → List ℕ → List ℕ → DeviceReport
second f budget input output =
    emulate_devices f.report.machine f.devices f.report.memory budget (drop f.exchange.read input) (drop f.exchange.printed output)

module _ (m : Machine) (c : Devices) (memory : List ℕ) (a b : ℕ) (input output : List ℕ) (g : Good (start m memory)) (f : DevicesFit c) (bytes : Bytes input)
    (h : a + b ≤ budget_limit) where
  abbrev from : Session Console
  from = opened (console (start m memory) c) input

  abbrev one : Ended (Session Console)
  one = run (length output) a from

  abbrev p : List ℕ
  p = one.left.printed

  abbrev two : Ended (Session Console)
  two = run (length output - length p) b (handed_on attached running console_step one.left)

  fits : SessionFit one.left
  fits = run_fits (length output) a {x = from} (record { engine = record { state = g; devices = f }; unread = bytes })

  -- what the second call is
  second_is : second (finished_devices input output one) b input output ≡ finished_devices one.left.unread (drop (length p) output) two
  second_is =
      ap (λ (l : List ℕ). emulate_devices (registers one.left.engine.state) one.left.engine.devices one.left.engine.state.memory b l (drop (length p) output))
      (unread_handed attached running console_step (length output) a (console (start m memory) c) input)
      ∙ run_of (registers one.left.engine.state) one.left.engine.devices one.left.engine.state.memory b one.left.unread (drop (length p) output)
      fits.engine.state fits.engine.devices (omega (arith, h))
      ∙ ap (λ (n : ℕ). finished_devices one.left.unread (drop (length p) output) (run n b (handed_on attached running console_step one.left))) (length-drop (length p) output)

  place : place_left (length output) (behind attached running console_step p two.left) ≡ place_left (length (drop (length p) output)) two.left
  place =
      place_behind attached running console_step (length output) p two.left
      ∙ ap (λ (n : ℕ). ltb (length two.left.printed) n) (sym (length-drop (length p) output))

  whole : finished_devices input output (ended (one.steps + two.steps) (behind attached running console_step p two.left))
      ≡ joined (finished_devices input output one) (finished_devices one.left.unread (drop (length p) output) two)
  whole =
      let s : State = two.left.engine.state in
      ap₂ (λ (t : Bool) (e : Exchange). record { report = ran (registers s) (reason_with s.run t) (one.steps + two.steps) s.memory; devices = two.left.engine.devices; exchange = e })
      place (exchange_split attached running console_step (length output) a b (console (start m memory) c) input output)

  pub two_calls : emulate_devices m c memory (a + b) input output
      ≡ joined (emulate_devices m c memory a input output) (second (emulate_devices m c memory a input output) b input output)
  two_calls =
      run_of m c memory (a + b) input output g f h
      ∙ ap (finished_devices input output) (session_split attached running console_step (length output) a b from)
      ∙ whole
      ∙ ap (joined (finished_devices input output one)) (sym second_is)
      ∙ ap (λ (r : DeviceReport). joined r (second r b input output)) (sym (run_of m c memory a input output g f (omega (arith, h))))
