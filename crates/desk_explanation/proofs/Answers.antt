-- What the two engines answer is what is explained: where nothing is refused they ran, the rows listed are those that acted, and the emulator at one step fewer ends before the
-- last step.
-- Assumes nothing.
use mathlib.Core.Path.{◌≡◌, refl, sym, ap, ◌∙◌, subst}
use mathlib.Core.Bool.{Bool, true, false}
use mathlib.Core.List.{List, [], ◌∷◌, ◌++◌, map}
use Prim.Native.Nat.{ℕ, ◌+◌, ◌-◌, ◌≤◌, ◌<◌}
use native.Mathlib.Omega.{arith}
use lib.ListN.{length, take, drop, length-append}
use lib.Dec.{ltb}
use lib.Seq.{take-append_seam}
use borrow.Author.Tests.{ltb-true}
use Rattle.laws.proofs.Joined.{and_right}
use Rattle.word.specs.Choice.{on, pick}
use Rattle.characters.specs.Named.{Named}
use Rattle.state.specs.Limits.{row_places}
use Rattle.state.specs.Refusals.{number_of}
use Rattle.state.specs.declared.Reason.{Reason}
use Rattle.state.specs.declared.Refusal.{Refusal}
use Rattle.state.specs.Refusals.{Verdict}
use Rattle.std.specs.Prelude.{Ok, Err}
use Rattle.state.proofs.Accepted.{state_sound, sound_state}
use Rattle.state.proofs.Numbers.{numbered}
use Rattle.devices.specs.declared.Devices.{Devices}
use Rattle.devices.specs.Devices.{printed_after}
use Rattle.devices.specs.Held.{Bytes}
use Rattle.devices.specs.Session as session
use Rattle.devices.specs.Session.{Session, goes_on, opened}
use Rattle.runs.proofs.Runs.{keeps_from}
use Rattle.machine_state.specs.declared.Machine.{Machine}
use Rattle.machine_state.specs.State.{start}
use Rattle.machine_console.specs.Console as consoles
use Rattle.machine_console.specs.Console.{Console, console, turn}
use Rattle.emulator.specs.Emulate as emulator
use Rattle.emulator.specs.Emulate.{emulate, emulate_devices}
use Rattle.std.specs.declared.result.Result.{Result}
use Rattle.emulator.specs.declared.Ended as emulated
use Rattle.emulator.specs.declared.DeviceAnswer.{DeviceAnswer}
use Rattle.evaluator.specs.Evaluate as evaluator
use Rattle.evaluator.specs.Evaluate.{Outcome}
use Rattle.evaluator.specs.declared.Refusal.TheVariants.{Text, State as Unfit}
use Rattle.rows_cycles.specs.Cycle.{Cycle}
use Rattle.shipped_rows.specs.Variant.{registers_of, values_of}
use Rattle.shipped.specs.Claim.{emulation, evaluation, by_cycles}
use Rattle.desk_run_lines.specs.Registers.{variant_of}
use Rattle.desk_explanation.specs.declared.Ending.{Ending}
use Rattle.desk_explanation.specs.Explanation.{paper_places, paper, places_of, told, ran_of, before_last, cycle_of, explained}
use Rattle.desk_explanation.specs.Answered.{checked_by, check_of, answered, ended_by, LastStep, pc_in, listed_in}
use Rattle.desk_explanation.proofs.Starts.{checked_claim}
use Rattle.desk_explanation.proofs.LastStep.{last_holds, steps_few}

-- what is answered after a run, in the terms of the engines' answers
pub record Told (d : Bool) (m : Machine) (c : Devices) (memory : List ℕ) (budget : ℕ) (input : List ℕ) (a : emulator.DeviceReport) (pc : ℕ) (before places : List ℕ) (listed : ℕ)
    (rows : List ℕ) : Type 0 where
  pub few : listed ≤ length rows
  pub printed : a.exchange.printed ≤ paper_places
  pub last : LastStep pc before a.report.memory
  pub is : answered d m c memory budget input ≡ told d a pc before places (take listed rows)

-- the emulator refuses what the check finds unfit
unfit_refuses : (d : Bool) (m : Machine) (c : Devices) (memory : List ℕ) (budget : ℕ) (input : List ℕ) (w : Refusal) → check_of d m c memory budget ≡ Err w
    → (emulation (variant_of d) m c memory budget input paper).report.number ≡ number_of w
unfolding emulate emulate_devices
unfit_refuses false m c memory budget input w e =
    let refused : emulate m memory budget ≡ emulator.refused w m memory = rw (e, emulate) in
    ap (λ (r : emulator.Report). r.number) refused
unfit_refuses true m c memory budget input w e =
    let refused : emulate_devices m c memory budget input paper ≡ emulator.refused_devices w m c memory paper = rw (e, emulate_devices) in
    ap (λ (r : emulator.DeviceReport). r.report.number) refused

-- a run reports no refusal
no_refusal : (d : Bool) (m : Machine) (c : Devices) (memory : List ℕ) (budget : ℕ) (input : List ℕ) → (ran_of d m c memory budget input).report.number ≡ 0
no_refusal false m c memory budget input = refl
no_refusal true m c memory budget input = refl

-- no more is printed than the paper has places: a step that prints found one
after_print : (c : Devices) (l : List ℕ) → length l < paper_places → length (printed_after c l) ≤ paper_places
unfolding printed_after
after_print c l h = go (on c.mark)
  where
    go : (t : Bool) → length (pick t (l ++ c.print ∷ []) l) ≤ paper_places
    go true = omega (arith, length-append l (c.print ∷ []))
    go false = omega arith

turn_printed : (x : Session Console) → goes_on consoles.running paper_places x ≡ true → length (turn x).printed ≤ paper_places
unfolding session.turn
turn_printed x e =
    after_print _ x.printed (ltb-true (length x.printed) paper_places (and_right (consoles.running x.engine) (ltb (length x.printed) paper_places) e))

printed_within : (d : Bool) (m : Machine) (c : Devices) (memory : List ℕ) (budget : ℕ) (input : List ℕ) → (ran_of d m c memory budget input).exchange.printed ≤ paper_places
printed_within false m c memory budget input = omega arith
printed_within true m c memory budget input =
    keeps_from (goes_on consoles.running paper_places) turn (λ (y : Session Console). length y.printed ≤ paper_places) (λ y e h. turn_printed y e) budget 0
    (opened (console (start m memory) c) input) (omega arith)

-- what the run of the rows reports of its last cycle
module _ (d : Bool) (m : Machine) (c : Devices) (memory : List ℕ) (budget : ℕ) (list input : List ℕ) where
  abbrev cycles : evaluator.Report
  cycles = (by_cycles (variant_of d) (record { registers = places_of d m c; memory = memory }) budget list input paper).report

  abbrev last : Cycle
  last = cycle_of d m c memory budget input

record Cycled (d : Bool) (m : Machine) (c : Devices) (memory : List ℕ) (budget : ℕ) (list input : List ℕ) : Type 0 where
  registers : (cycles d m c memory budget list input).registers ≡ (last d m c memory budget list input).state.registers
  listed : (cycles d m c memory budget list input).listed ≡ length (last d m c memory budget list input).acted
  list_is : let acted = (last d m c memory budget list input).acted in (cycles d m c memory budget list input).list ≡ acted ++ drop (length acted) list

cycled : (d : Bool) (m : Machine) (c : Devices) (memory : List ℕ) (budget : ℕ) (list input : List ℕ) → Cycled d m c memory budget list input
cycled true m c memory budget list input = record { registers = refl; listed = refl; list_is = refl }
cycled false m c memory budget list input = record { registers = refl; listed = refl; list_is = refl }

module _ (d : Bool) (m : Machine) (c : Devices) (memory : List ℕ) (budget : ℕ) (input : List ℕ) where
  checked : (v : Verdict) → check_of d m c memory budget ≡ v → answered d m c memory budget input ≡ checked_by v (explained d m c memory budget input)
  unfolding answered
  checked v e = ap (λ (u : Verdict). checked_by u (explained d m c memory budget input)) e

  -- what passes passes with a smaller budget
  fewer_fits : (n : ℕ) → n ≤ budget → check_of d m c memory budget ≡ Ok tt → check_of d m c memory n ≡ Ok tt
  fewer_fits n h e =
      let widths = map (λ (r : Named). r.number) (registers_of (variant_of d)) in
      let values = values_of (variant_of d) m c in
      let sound = state_sound widths values memory budget e in
      sound_state widths values memory n sound.0 sound.1 (omega (arith, sound.2, h))

  -- the explanation of a start by its two runs
  explained_is : let r = ran_of d m c memory budget input in
      let before = before_last d m c memory r.report.steps input in
      let cycle = cycle_of d m c memory budget input in
      explained d m c memory budget input ≡ told d r before.machine.pc before.memory cycle.state.registers cycle.acted
  unfolding explained
  explained_is = refl

  module _ (list : List ℕ) (room : row_places ≤ length list) where
    -- where the emulator refuses, nothing is written
    refused_is : (a : emulator.DeviceReport) → (a.report.number ≡ 0 → ⊥) → a ≡ emulation (variant_of d) m c memory budget input paper → answered d m c memory budget input ≡ []
    refused_is a h p = go (check_of d m c memory budget) refl
      where
        go : (v : Verdict) → check_of d m c memory budget ≡ v → answered d m c memory budget input ≡ []
        go (Ok fit) e =
            let claim = checked_claim d m c memory budget e list input paper room in
            absurd (h (ap (λ (r : emulator.DeviceReport). r.report.number) (p ∙ claim.emulated) ∙ no_refusal d m c memory budget input))
        go (Err w) e = checked (Err w) e

    module _ (bytes : Bytes input) (a : emulator.DeviceReport) (x : emulator.Report) (b : evaluator.Report)
        (p : a ≡ emulation (variant_of d) m c memory budget input paper)
        (o : x ≡ (emulation (variant_of d) m c memory (a.report.steps - 1) input paper).report)
        (q : b ≡ (evaluation (variant_of d) (places_of d m c) memory budget list input paper).report) where
      -- the answers of both engines, and of the emulator at one step fewer, where the check finds the state fit
      fit_told : check_of d m c memory budget ≡ Ok tt → Told d m c memory budget input a x.machine.pc x.memory b.registers b.listed b.list
      fit_told e =
          let claim = checked_claim d m c memory budget e list input paper room in
          let r : emulator.DeviceReport = ran_of d m c memory budget input in
          let early : emulator.Report = before_last d m c memory r.report.steps input in
          let cycle : Cycle = cycle_of d m c memory budget input in
          let same : a ≡ r = p ∙ claim.emulated in
          let made : a.report.steps ≡ r.report.steps = ap (λ (y : emulator.DeviceReport). y.report.steps) same in
          let lower = fewer_fits (a.report.steps - 1) (omega (arith, made, steps_few d m c memory budget input)) e in
          let before : x ≡ early =
          o ∙ ap (λ (y : emulator.DeviceReport). y.report) (checked_claim d m c memory (a.report.steps - 1) lower list input paper room).emulated
          ∙ ap (λ (n : ℕ). (ran_of d m c memory (n - 1) input).report) made in
          let listed : b ≡ cycles d m c memory budget list input = q ∙ ap (λ (y : evaluator.DeviceReport). y.report) claim.evaluated in
          let ends = cycled d m c memory budget list input in
          let registers : b.registers ≡ cycle.state.registers = ap (λ (y : evaluator.Report). y.registers) listed ∙ ends.registers in
          let count : b.listed ≡ length cycle.acted = ap (λ (y : evaluator.Report). y.listed) listed ∙ ends.listed in
          let whole : b.list ≡ cycle.acted ++ drop (length cycle.acted) list = ap (λ (y : evaluator.Report). y.list) listed ∙ ends.list_is in
          let rows : take b.listed b.list ≡ cycle.acted =
          ap (λ (n : ℕ). take n b.list) count ∙ ap (take (length cycle.acted)) whole ∙ take-append_seam cycle.acted (drop (length cycle.acted) list) in
          let size : length b.list ≡ length cycle.acted + length (drop (length cycle.acted) list) =
          ap (length {A = ℕ}) whole ∙ length-append cycle.acted (drop (length cycle.acted) list) in
          record {
            few = omega (arith, count, size);
            printed = subst (λ (y : emulator.DeviceReport). y.exchange.printed ≤ paper_places) (sym same) (printed_within d m c memory budget input);
            last =
                subst (λ (y : emulator.Report). LastStep y.machine.pc y.memory a.report.memory) (sym before)
                (subst (λ (y : emulator.DeviceReport). LastStep early.machine.pc early.memory y.report.memory) (sym same) (last_holds d m c memory budget input bytes e));
            is = checked (Ok tt) e ∙ explained_is
                ∙ sym (ap (λ (y : emulator.DeviceReport). told d y x.machine.pc x.memory b.registers (take b.listed b.list)) same
                ∙ ap (λ (y : emulator.Report). told d r y.machine.pc y.memory b.registers (take b.listed b.list)) before
                ∙ ap (λ (l : List ℕ). told d r early.machine.pc early.memory l (take b.listed b.list)) registers
                ∙ ap (told d r early.machine.pc early.memory cycle.state.registers) rows);
          }

      -- where the emulator ran, the check found the state fit
      ran_is : a.report.number ≡ 0 → Told d m c memory budget input a x.machine.pc x.memory b.registers b.listed b.list
      ran_is none = go (check_of d m c memory budget) refl
        where
          go : (v : Verdict) → check_of d m c memory budget ≡ v → Told d m c memory budget input a x.machine.pc x.memory b.registers b.listed b.list
          go (Ok fit) e = fit_told e
          go (Err w) e =
              absurd (numbered w (sym (unfit_refuses d m c memory budget input w e) ∙ sym (ap (λ (y : emulator.DeviceReport). y.report.number) p) ∙ none))

  -- the same in the terms of the evaluator's own answer, and of the emulator's at one step fewer
  by_outcome : (a : emulator.DeviceReport) (pc : ℕ) (before : List ℕ) (o : Outcome) (places second rows : List ℕ)
      → Told d m c memory budget input a pc before
      (evaluator.outcome_of o places second rows).registers (evaluator.outcome_of o places second rows).listed (evaluator.outcome_of o places second rows).list
      → Told d m c memory budget input a pc before places (listed_in o) rows
  by_outcome a pc before (Ok end) places second rows t = t
  by_outcome a pc before (Err (Text why)) places second rows t = t
  by_outcome a pc before (Err (Unfit why)) places second rows t = t

  by_answer : (a : emulator.DeviceReport) (e : Result emulated.Ended Refusal) (before places : List ℕ) (listed : ℕ) (rows : List ℕ)
      → Told d m c memory budget input a (emulator.report m e before).machine.pc (emulator.report m e before).memory places listed rows
      → Told d m c memory budget input a (pc_in m e) before places listed rows
  by_answer a (Ok end) before places listed rows t = t
  by_answer a (Err why) before places listed rows t = t

  -- number and reason are not told
  by_ending : (e : Ending) (why : Reason) (mem out : List ℕ) (pc : ℕ) (before places : List ℕ) (listed : ℕ) (rows : List ℕ)
      → Told d m c memory budget input
      (record { report = emulator.ran e.machine why e.steps mem; devices = e.devices; exchange = record { read = e.read; printed = e.printed; output = out } })
      pc before places listed rows
      → Told d m c memory budget input (ended_by e mem out) pc before places listed rows
  unfolding told
  by_ending e why mem out pc before places listed rows t = record { few = t.few; printed = t.printed; last = t.last; is = t.is }

-- and of the emulator's: what `answered` has to know
module _ (d : Bool) (m : Machine) (c : Devices) (memory : List ℕ) (budget : ℕ) (input list : List ℕ) (room : row_places ≤ length list) (r : DeviceAnswer) (mem out : List ℕ)
    (p : emulator.device_report m r mem out ≡ emulation (variant_of d) m c memory budget input paper) where
  -- with an answer put in
  abbrev with : Result emulated.Ended Refusal → emulator.DeviceReport
  with y = record { report = emulator.report m y mem; devices = r.devices; exchange = record { read = r.read; printed = r.printed; output = out } }

  abbrev ending : emulated.Ended → Ending
  ending end = record { steps = end.steps; machine = end.machine; devices = r.devices; read = r.read; printed = r.printed }

  pub refused_by : (why : Refusal) → r.answer ≡ Err why → answered d m c memory budget input ≡ []
  refused_by why q = refused_is d m c memory budget input list room (with (Err why)) (numbered why) (sym (ap with q) ∙ p)

  pub ran_by : Bytes input → (end : emulated.Ended) (o : Outcome) (places second rows : List ℕ) (a : Result emulated.Ended Refusal) (before : List ℕ)
      → r.answer ≡ Ok end
      → evaluator.outcome_of o places second rows ≡ (evaluation (variant_of d) (places_of d m c) memory budget list input paper).report
      → emulator.report m a before ≡ (emulation (variant_of d) m c memory (end.steps - 1) input paper).report
      → Told d m c memory budget input (ended_by (ending end) mem out) (pc_in m a) before places (listed_in o) rows
  ran_by bytes end o places second rows a before q s x =
      let ran = with (Ok end) in
      by_ending d m c memory budget input (ending end) end.reason mem out (pc_in m a) before places (listed_in o) rows
      (by_outcome d m c memory budget input ran (pc_in m a) before o places second rows
      (by_answer d m c memory budget input ran a before _ _ _
      (ran_is d m c memory budget input list room bytes ran (emulator.report m a before) (evaluator.outcome_of o places second rows) (sym (ap with q) ∙ p) x s refl)))
