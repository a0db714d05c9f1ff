-- The last step of a run, with devices or without: it begins where a run of one step fewer ends, at an address of memory, and changes few words.
-- Assumes nothing.
use mathlib.Core.Path.{◌≡◌, refl, sym, ◌∙◌, subst}
use mathlib.Core.Bool.{Bool, true, false}
use mathlib.Core.List.{List}
use Prim.Native.Nat.{ℕ, zero, suc, ◌-◌, ◌≤◌}
use native.Mathlib.Omega.{arith}
use lib.ListN.{length}
use Rattle.std.specs.Prelude.{Ok}
use Rattle.runs.specs.Run as runs
use Rattle.runs.specs.Run.{Ended, run_from}
use Rattle.runs.proofs.Counts.{steps_within, last_step, no_step}
use Rattle.devices.specs.declared.Devices.{Devices}
use Rattle.devices.specs.Devices.{begun}
use Rattle.devices.specs.Held.{Bytes}
use Rattle.devices.specs.Session as session
use Rattle.devices.specs.Session.{Session, goes_on, opened}
use Rattle.machine_state.specs.declared.Machine.{Machine}
use Rattle.machine_state.specs.State.{State, Good, start}
use Rattle.machine_run.specs.Step.{step}
use Rattle.machine_run.specs.Run as steps
use Rattle.machine_run.specs.Run.{running}
use Rattle.machine_run.proofs.Runs.{run_good}
use Rattle.machine_console.specs.Console as consoles
use Rattle.machine_console.specs.Console.{Console, console, turn}
use Rattle.machine_console.proofs.Keeps.{SessionFit, run_fits}
use Rattle.desk_last_step.specs.LastStep.{change_lines}
use Rattle.desk_last_step.specs.Sizes.{change_lines_bytes}
use Rattle.desk_last_step.proofs.Changes.{unchanged}
use Rattle.desk_last_step.proofs.Few.{step_few, console_few}
use Rattle.desk_explanation.specs.Explanation.{paper_places, ran_of, before_last}
use Rattle.desk_explanation.specs.Answered.{check_of, LastStep}
use Rattle.desk_explanation.proofs.Starts.{checked_good, checked_devices}

-- the words that the last step of any run changed, where each step changes few
module _ {A : Type 0} (goes : A → Bool) (act : A → A) (memory_of : A → List ℕ)
    (few : (x : A) → length (change_lines 0 (memory_of x) (memory_of (act x))) ≤ change_lines_bytes) (budget : ℕ) (x : A) where
  abbrev made : ℕ
  made = (runs.run goes act budget x).steps

  abbrev Few : ℕ → Type 0
  Few n = length (change_lines 0 (memory_of (runs.run goes act n x).left) (memory_of (runs.run goes act budget x).left)) ≤ change_lines_bytes

  few_changes : (n : ℕ) → made ≡ n → Few (made - 1)
  unfolding run_from
  few_changes zero h =
      let none : made - 1 ≡ 0 = omega arith in
      subst Few (sym none)
      (subst (λ (y : A). length (change_lines 0 (memory_of x) (memory_of y)) ≤ change_lines_bytes) (sym (no_step goes act budget x h))
      (omega (arith, unchanged 0 (memory_of x))))
  few_changes (suc n) h =
      let one : made - 1 ≡ n = omega arith in
      subst Few (sym one)
      (subst (λ (y : A). length (change_lines 0 (memory_of (runs.run goes act n x).left) (memory_of y)) ≤ change_lines_bytes)
      (sym (last_step goes act budget n x h)) (few (runs.run goes act n x).left))

-- a step with its start and its print
turn_few : (x : Session Console) → length (change_lines 0 x.engine.state.memory (turn x).engine.state.memory) ≤ change_lines_bytes
unfolding session.turn
turn_few x = console_few (console x.engine.state (begun x.engine.devices x.unread))

-- from good states before and after it
between : (before after : State) → Good before → Good after → length (change_lines 0 before.memory after.memory) ≤ change_lines_bytes
    → LastStep before.pc before.memory after.memory
between before after b a few =
    record { inside = omega (arith, b.pc, b.memory.size); whole = a.memory.size ∙ sym b.memory.size; few = few }

pub last_holds : (d : Bool) (m : Machine) (c : Devices) (memory : List ℕ) (budget : ℕ) (input : List ℕ) → Bytes input → check_of d m c memory budget ≡ Ok tt →
    let r = (ran_of d m c memory budget input).report in
    let before = before_last d m c memory r.steps input in
    LastStep before.machine.pc before.memory r.memory
last_holds false m c memory budget input bytes fit =
    let good = checked_good false m c memory budget fit in
    let s = start m memory in
    between (steps.run ((steps.run budget s).steps - 1) s).left (steps.run budget s).left (run_good _ good) (run_good budget good)
    (few_changes running step (λ (t : State). t.memory) step_few budget s (steps.run budget s).steps refl)
last_holds true m c memory budget input bytes fit =
    let x : Session Console = opened (console (start m memory) c) input in
    let fits : SessionFit x = record { engine = record { state = checked_good true m c memory budget fit; devices = checked_devices m c memory budget fit }; unread = bytes } in
    let n = (consoles.run paper_places budget x).steps in
    between (consoles.run paper_places (n - 1) x).left.engine.state (consoles.run paper_places budget x).left.engine.state
    (run_fits paper_places (n - 1) fits).engine.state (run_fits paper_places budget fits).engine.state
    (few_changes (goes_on consoles.running paper_places) turn (λ (y : Session Console). y.engine.state.memory) turn_few budget x n refl)

-- no more steps than the budget
pub steps_few : (d : Bool) (m : Machine) (c : Devices) (memory : List ℕ) (budget : ℕ) (input : List ℕ) → (ran_of d m c memory budget input).report.steps ≤ budget
steps_few false m c memory budget input = steps_within running step budget (start m memory)
steps_few true m c memory budget input = steps_within (goes_on consoles.running paper_places) turn budget (opened (console (start m memory) c) input)
