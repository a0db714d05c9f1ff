-- What a run with devices comes to, as the code's numbers have it.
-- Assumes nothing.
use mathlib.Core.Path.{◌≡◌, sym, ap, ap₂, ◌∙◌, subst}
use mathlib.Core.List.{List}
use Prim.Native.Nat.{ℕ}
use native.Mathlib.Omega.{arith}
use lib.Dec.{ltb}
use lib.ListN.{length, take}
use lib.Seq.{length-take-le}
use Rattle.state.specs.Refusals.{reason_with}
use Rattle.state.specs.declared.Reason.{Reason}
use Rattle.runs.specs.Run.{Ended}
use Rattle.devices.specs.declared.Devices.{Devices}
use Rattle.devices.specs.Devices.{DevicesFit}
use Rattle.devices.specs.Session.{Session, Exchange, opened}
use Rattle.devices.specs.Held.{Bytes}
use Rattle.devices.proofs.Held.{exchange_is}
use Rattle.machine_state.specs.declared.Machine.{Machine}
use Rattle.machine_state.specs.State.{State, Good}
use Rattle.machine_state.specs.Processor.{narrowed, at, Narrow}
use Rattle.machine_state.proofs.Keeps.{good_narrow}
use Rattle.machine_console.specs.declared.run.SessionEnd.{SessionEnd}
use Rattle.machine_console.specs.Console.{Console, console, run}
use Rattle.machine_console.specs.Ran.{Ran}
use Rattle.machine_console.proofs.Keeps.{run_fits}
use Rattle.emulator.specs.Emulate.{Report, DeviceReport, device_report, finished_devices, ran}
use Rattle.std.specs.Prelude.{Ok}

module _ {s : State} {c : Devices} {budget : ℕ} {input output memory after : List ℕ} {r : SessionEnd} (k : Ran s c budget input output memory after r) where
  -- the registers fit, so that they can be handed back
  pub end_narrow : Good s → DevicesFit c → Bytes input → Narrow r.processor
  end_narrow g f b =
      good_narrow {p = r.processor} {memory = memory}
      (subst Good (sym (ap (λ (e : Ended (Session Console)). e.left.engine.state) k.same))
      (run_fits (length output) budget {x = opened (console s c) input} (record { engine = record { state = g; devices = f }; unread = b })).engine.state)

  front : length (take r.printed after) ≡ r.printed
  front = length-take-le r.printed after (omega (arith, k.printed, k.size))

  pub end_told : (m machine : Machine) (reason : Reason) → machine ≡ narrowed r.processor → reason ≡ reason_with r.processor.run (ltb r.printed (length after))
      → device_report m (record { answer = Ok (record { machine = machine; reason = reason; steps = r.steps }); devices = r.devices; read = r.read; printed = r.printed }) memory after
      ≡ finished_devices input output (run (length output) budget (opened (console s c) input))
  end_told m machine reason e q =
      let place : reason_with r.processor.run (ltb r.printed (length after)) ≡ reason_with r.processor.run (ltb (length (take r.printed after)) (length output)) =
      ap₂ (λ (a b : ℕ). reason_with r.processor.run (ltb a b)) (sym front) k.size in
      ap₂ (λ (x : Machine) (w : Reason). left (ran x w r.steps memory) (record { read = r.read; printed = r.printed; output = after })) e (q ∙ place)
      ∙ ap (left (ran (narrowed r.processor) (reason_with r.processor.run (ltb (length (take r.printed after)) (length output))) r.steps memory))
      (exchange_is (console (at r.processor memory) r.devices) r.read r.printed input output after k.read (omega (arith, k.printed, k.size)) k.buffer)
      ∙ ap (finished_devices input output) k.same
    where
      left : Report → Exchange → DeviceReport
      left x y = record { report = x; devices = r.devices; exchange = y }
