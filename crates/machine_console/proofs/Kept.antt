-- What the loop of a run with devices keeps, and that a round keeps it.
-- Assumes nothing.
use mathlib.Core.Path.{◌≡◌, sym, ap, ◌∙◌, subst}
use mathlib.Core.Bool.{Bool, true, false, ◌&&◌}
use mathlib.Core.List.{List}
use Prim.Native.Nat.{ℕ, ◌-◌, ◌^◌, ◌≤◌, ◌<◌}
use native.Mathlib.Omega.{arith}
use borrow.Author.Tests.{ltb-true, ltb-false}
use lib.Dec.{ltb}
use lib.ListN.{length, drop, take}
use lib.Seq.{length-take-le}
use Rattle.laws.proofs.Joined.{and_left, and_right}
use Rattle.laws.proofs.Tests.{by_test}
use Rattle.word.specs.Choice.{on}
use Rattle.runs.specs.Run.{ended, run_from}
use Rattle.runs.proofs.Runs.{run_stops, run_spent}
use Rattle.devices.specs.declared.Devices.{Devices}
use Rattle.devices.specs.Devices.{byte_bits, DevicesFit}
use Rattle.devices.specs.Session.{Session, goes_on, opened}
use Rattle.devices.specs.Held.{BegunBy, PrintedBy, Bytes, session}
use Rattle.devices.proofs.Starts.{begun_fit}
use Rattle.devices.proofs.Prints.{Printing, printing_start, Prints, prints_next}
use Rattle.machine_state.specs.State.{State, Good}
use Rattle.machine_console.specs.Console.{Console, console, running, turn, run}
use Rattle.machine_console.specs.Rounds.{worked, finished_at, round}
use Rattle.machine_console.proofs.Keeps.{SessionFit}
use Rattle.machine_console.proofs.Quiet.{standing, finished}
use Rattle.machine_console.proofs.Turned.{Turned, round_turned}

-- from the start (s₀, c₀, input, output₀)
pub record Kept (s₀ : State) (c₀ : Devices) (budget : ℕ) (input output₀ : List ℕ) (s : State) (c : Devices) (steps read printed : ℕ) (output : List ℕ)
    : Type 0 where
  pub same : run (length output₀) budget (opened (console s₀ c₀) input)
      ≡ run_from (goes_on running (length output₀)) turn (budget - steps) steps (session (console s c) read printed input output)
  pub fits : SessionFit (session (console s c) read printed input output)
  pub printing : Printing output₀ output printed
  pub most_read : read ≤ length input
  pub most_steps : steps ≤ budget

pub kept_first : (s : State) (c : Devices) (budget : ℕ) (input output : List ℕ) → Good s → DevicesFit c → Bytes input → Kept s c budget input output s c 0 0 0 output
kept_first s c budget input output g f b =
    record {
      same = ap (λ (n : ℕ). run_from (goes_on running (length output)) turn n 0 (opened (console s c) input)) (omega arith);
      fits = record { engine = record { state = g; devices = f }; unread = b };
      printing = printing_start output;
      most_read = omega arith;
      most_steps = omega arith;
    }

module _ {s₀ : State} {c₀ : Devices} {budget : ℕ} {input output₀ : List ℕ} {s : State} {c : Devices} {steps read printed : ℕ} {output : List ℕ}
    (k : Kept s₀ c₀ budget input output₀ s c steps read printed output) where
  abbrev room : ℕ
  room = length output₀

  abbrev at_loop : Session Console
  at_loop = session (console s c) read printed input output

  tests : goes_on running room at_loop ≡ on s.run && ltb printed (length output)
  tests =
      ap (λ (n : ℕ). on s.run && ltb n room) (length-take-le printed output k.printing.count)
      ∙ ap (λ (n : ℕ). on s.run && ltb printed n) (sym k.printing.size)

  -- the loop's test fails: the run ends here
  pub loop_ends : {goes : Bool} → goes ≡ ltb steps budget && (on s.run && ltb printed (length output)) → goes ≡ false
      → ended steps at_loop ≡ run room budget (opened (console s₀ c₀) input)
  loop_ends told e =
      sym (k.same
      ∙ by_test (ltb steps budget)
      (λ t. run_stops (goes_on running room) turn (budget - steps) steps at_loop
      (tests ∙ sym (ap (λ (b : Bool). b && (on s.run && ltb printed (length output))) t) ∙ sym told ∙ e))
      (λ t. run_spent (goes_on running room) turn budget steps at_loop (ltb-false steps budget t)))

  -- the loop's test holds, and the step begins
  module _ {holds : Bool} (told : holds ≡ ltb steps budget && (on s.run && ltb printed (length output))) (e : holds ≡ true)
      {c₁ : Devices} {read₁ : ℕ} (begins : BegunBy c input read c₁ read₁) where
    goes : on s.run && ltb printed (length output) ≡ true
    goes = and_right (ltb steps budget) (on s.run && ltb printed (length output)) (sym told ∙ e)

    pub steps_left : steps < budget
    steps_left = ltb-true steps budget (and_left (ltb steps budget) (on s.run && ltb printed (length output)) (sym told ∙ e))

    pub begun_kept : DevicesFit c₁
    begun_kept = subst DevicesFit (sym begins.devices) (begun_fit k.fits.unread k.fits.engine.devices)

    pub place_left_lem : printed < length output
    place_left_lem = ltb-true printed (length output) (and_right (on s.run) (ltb printed (length output)) goes)

    -- and its work is done
    module _ {n : ℕ} {s₁ : State} {c₂ : Devices} (works : ended n (console s₁ c₂) ≡ worked (budget - steps) steps (console s c₁)) where
      abbrev p : List ℕ
      p = take printed output

      round_is : round (budget - steps) steps at_loop ≡ ended n (finished (console s₁ c₂) (drop read₁ input) p)
      unfolding round
      round_is =
          ap (λ (d : Devices). finished_at at_loop (worked (budget - steps) steps (console s d))) (sym begins.devices)
          ∙ ap (finished_at at_loop) (sym works)
          ∙ ap (λ (l : List ℕ). ended n (finished (console s₁ c₂) l p)) (sym begins.unread)

      turned : Turned room budget steps at_loop (ended n (finished (console s₁ c₂) (drop read₁ input) p))
      turned =
          subst (Turned room budget steps at_loop) round_is
          (round_turned room budget steps at_loop k.fits steps_left (tests ∙ goes))

      pub byte_fits : c₂.print < 2 ^ byte_bits
      byte_fits = turned.fits.engine.devices.print

      pub work_grows : steps < n
      work_grows = turned.more

      -- and what it marked is printed
      module _ {output₁ : List ℕ} {printed₁ : ℕ} (prints : PrintedBy c₂ output printed output₁ printed₁) where
        next : Prints c₂ output₀ output printed output₁ printed₁
        next = prints_next c₂ output₀ output output₁ printed printed₁ k.printing (λ e. place_left_lem) prints

        pub kept_again : Kept s₀ c₀ budget input output₀ s₁ c₂ n read₁ printed₁ output₁
        kept_again =
            let settled = ap (standing s₁ c₂ (drop read₁ input)) (sym next.front) in
            record {
              same = k.same ∙ turned.same ∙ ap (run_from (goes_on running room) turn (budget - n) n) settled;
              fits = subst SessionFit settled turned.fits;
              printing = next.printing;
              most_read = begins.within;
              most_steps = turned.within;
            }
