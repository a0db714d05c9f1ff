-- What holds of every turn: its steps are among those that are left, it takes no more keys than were typed, and it prints no more than there is room for. So it comes to what the
-- definition says, by the emulator's answer.
-- Assumes nothing.
use mathlib.Core.Path.{◌≡◌, refl, sym, ap, ap₂, ◌∙◌}
use mathlib.Core.Bool.{Bool, false, ◌&&◌}
use mathlib.Core.List.{List, ◌++◌}
use Prim.Native.Nat.{ℕ, ◌-◌, ◌≤◌}
use native.Mathlib.Omega.{arith}
use native.Mathlib.Nat.{sub-zero}
use lib.Dec.{eqb, ltb}
use lib.ListN.{length, drop, length-append}
use borrow.Author.Tests.{ltb-false}
use Rattle.laws.proofs.Tests.{by_case}
use Rattle.word.specs.Choice.{on}
use Rattle.state.specs.Checks.{check_state}
use Rattle.state.specs.Refusals.{number_of, Verdict}
use Rattle.state.specs.declared.Refusal.{Refusal}
use Rattle.state.specs.declared.Refusal.TheVariants.{MemoryLength, Word, Register, Budget, RowList}
use Rattle.std.specs.Prelude.{Ok, Err}
use Rattle.std.specs.declared.result.Result.{Result}
use Rattle.runs.specs.Run.{Ended}
use Rattle.runs.proofs.Counts.{steps_within}
use Rattle.devices.specs.declared.Devices.{Devices}
use Rattle.devices.specs.Devices.{device_widths, device_values, written}
use Rattle.devices.specs.Session.{Session, goes_on, opened}
use Rattle.machine_state.specs.declared.Machine.{Machine}
use Rattle.machine_state.specs.State.{start}
use Rattle.machine_state.specs.Registers.{widths, values}
use Rattle.machine_console.specs.Console.{Console, console, running, turn, run}
use Rattle.emulator.specs.declared.Ended as answer
use Rattle.emulator.specs.declared.DeviceAnswer.{DeviceAnswer}
use Rattle.emulator.specs.Emulate.{report, DeviceReport, device_report, finished_devices, refused_devices, emulate_devices}
use Rattle.desk_teletype.specs.declared.Sitting.{Sitting}
use Rattle.desk_teletype.specs.declared.Turn.{Turn}
use Rattle.desk_teletype.specs.Sitting.{turn_steps, portion, outcome, turn as turned_by, Turned}

-- the emulator's answer is that of a run or a refusal
module _ (m : Machine) (c : Devices) (memory : List ℕ) (budget : ℕ) (input output : List ℕ) where
  abbrev ran : Ended (Session Console)
  ran = run (length output) budget (opened (console (start m memory) c) input)

  by_answer : (P : DeviceReport → Type 0) → P (finished_devices input output ran) → ((why : Refusal) → P (refused_devices why m c memory output))
      → P (emulate_devices m c memory budget input output)
  unfolding emulate_devices
  by_answer P ran-holds refused-holds = go (check_state (widths ++ device_widths) (values m ++ device_values c) memory budget)
    where
      go : (v : Verdict) → P (elim v [ Ok fit ↦ finished_devices input output ran | Err why ↦ refused_devices why m c memory output ])
      go (Ok fit) = ran-holds
      go (Err why) = refused-holds why

  steps_few : (emulate_devices m c memory budget input output).report.steps ≤ budget
  steps_few =
      by_answer (λ (o : DeviceReport). o.report.steps ≤ budget)
      (steps_within (goes_on running (length output)) turn budget (opened (console (start m memory) c) input))
      (λ why. omega arith)

  read_few : (emulate_devices m c memory budget input output).exchange.read ≤ length input
  read_few = by_answer (λ (o : DeviceReport). o.exchange.read ≤ length input) (omega arith) (λ why. omega arith)

  -- where the output keeps its length, what was printed is within it
  printed_few : length (emulate_devices m c memory budget input output).exchange.output ≡ length output
      → (emulate_devices m c memory budget input output).exchange.printed ≤ length output
  unfolding written
  printed_few =
      by_answer (λ (o : DeviceReport). length o.exchange.output ≡ length output → o.exchange.printed ≤ length output)
      (λ h. let p = ran.left.printed in omega (arith, h, length-append p (drop (length p) output)))
      (λ why h. omega arith)

-- ---- a turn

portion_le : (left : ℕ) → portion left ≤ left
unfolding portion
portion_le left = by_case (λ (n : ℕ). n ≤ left) (ltb left turn_steps) (λ t. omega arith) (λ t. omega (arith, ltb-false left turn_steps t))

-- every refusal has a number
numbered : (why : Refusal) → eqb (number_of why) 0 ≡ false
numbered MemoryLength = refl
numbered (Word place) = refl
numbered (Register place) = refl
numbered Budget = refl
numbered RowList = refl

module _ (s : Sitting) (memory input output : List ℕ) where
  abbrev o : DeviceReport
  o = outcome s memory input output

  turn_steps_lem : o.report.steps ≤ s.left
  unfolding outcome
  turn_steps_lem = omega (arith, portion_le s.left, steps_few s.machine s.devices memory (portion s.left) input output)

  turn_read : o.exchange.read ≤ length input
  unfolding outcome
  turn_read = read_few s.machine s.devices memory (portion s.left) input output

  turn_printed : length o.exchange.output ≡ length output → o.exchange.printed ≤ length output
  unfolding outcome
  turn_printed = printed_few s.machine s.devices memory (portion s.left) input output

  -- the emulator's answer, and what it leaves of the memory and the output
  module _ (e : DeviceAnswer) (memory' output' : List ℕ) (same : device_report s.machine e memory' output' ≡ o) (kept : length output' ≡ length output) where
    abbrev reported : Result answer.Ended Refusal → DeviceReport
    reported a =
        record {
          report = report s.machine a memory';
          devices = e.devices;
          exchange = record { read = e.read; printed = e.printed; output = output' };
        }

    known : {a : Result answer.Ended Refusal} → e.answer ≡ a → reported a ≡ o
    known t = ap reported (sym t) ∙ same

    turned : {a : Result answer.Ended Refusal} → e.answer ≡ a → (r : Turn) → r ≡ turned_by s o → (reported a).report.memory ≡ memory' → Turned s memory input output r memory' output'
    turned t r is left =
        let paper : output' ≡ o.exchange.output = ap (λ (d : DeviceReport). d.exchange.output) (known t) in
        record {
          answer = is;
          memory = sym left ∙ ap (λ (d : DeviceReport). d.report.memory) (known t);
          output = paper;
          left = rw is (omega arith);
          read = rw is turn_read;
          printed = rw (is, kept) (turn_printed (ap length (sym paper) ∙ kept));
        }

    module _ (ended : answer.Ended) (t : e.answer ≡ Ok ended) where
      pub steps_left : ended.steps ≤ s.left
      steps_left = let same-steps : ended.steps ≡ o.report.steps = ap (λ (d : DeviceReport). d.report.steps) (known t) in omega (arith, turn_steps_lem)

      pub turned_ran : Turned s memory input output
          (record {
            sitting = record { machine = ended.machine; devices = e.devices; left = s.left - ended.steps };
            read = e.read;
            printed = e.printed;
            more = on ended.machine.run && on (s.left - ended.steps);
          })
          memory' output'
      turned_ran = turned t _ (ap (turned_by s) (known t)) refl

    pub turned_refused : (why : Refusal) → e.answer ≡ Err why
        → Turned s memory input output
        (record { sitting = record { machine = s.machine; devices = e.devices; left = s.left }; read = e.read; printed = e.printed; more = false })
        memory' output'
    turned_refused why t =
        turned t _
        (ap₂ (λ (left : ℕ) (fit : Bool).
        record {
          sitting = record { machine = s.machine; devices = e.devices; left = left };
          read = e.read;
          printed = e.printed;
          more = fit && on s.machine.run && on left;
        })
        (sym (sub-zero s.left)) (sym (numbered why)) ∙ ap (turned_by s) (known t))
        refl
