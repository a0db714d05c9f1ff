-- Rounds make the run that the definition makes step by step: a round is as many steps as its stretch has, and the run goes on from what it leaves.
-- Assumes nothing.
use mathlib.Core.Path.{◌≡◌, refl, sym, ap, ◌∙◌, subst}
use mathlib.Core.Bool.{Bool, true, false, false≢true, ◌&&◌}
use mathlib.Core.List.{List}
use Prim.Native.Nat.{ℕ, zero, suc, ◌+◌, ◌-◌, ◌≤◌, ◌<◌}
use native.Mathlib.Nat.{add-suc, suc-add}
use native.Mathlib.Omega.{arith}
use lib.Dec.{ltb, lit<}
use lib.ListN.{length}
use Rattle.laws.proofs.Tests.{by_test, by_case}
use Rattle.laws.proofs.Joined.{and_left, and_right}
use Rattle.word.specs.Choice.{on, pick}
use Rattle.word.proofs.Choice.{case_true, case_false}
use Rattle.runs.specs.Run.{Ended, ended, run_from}
use Rattle.runs.proofs.Runs.{run_stops, run_step, from_following}
use Rattle.runs.proofs.Counts.{steps_within}
use Rattle.devices.specs.declared.Devices.{Devices}
use Rattle.devices.specs.Devices.{DevicesFit, unread_after}
use Rattle.devices.specs.Session.{Session, goes_on, place_left}
use Rattle.devices.proofs.Starts.{fit_flags, Settled, begun_settled, begun_fit, unread_bytes}
use Rattle.machine_state.specs.State.{State, Good, word, with_run, with_request}
use Rattle.machine_state.specs.Instruction.{is_device}
use Rattle.machine_state.proofs.Keeps.{request_good}
use Rattle.machine_run.specs.Step.{makes_test, step}
use Rattle.machine_run.specs.Run as steps
use Rattle.machine_run.specs.Stretch.{paused_at, is_paused, unpaused, Ready, advance, stretch_from}
use Rattle.machine_run.proofs.Keeps.{step_good}
use Rattle.machine_run.proofs.Advances.{untested_plain}
use Rattle.machine_run.proofs.Ready.{good_unpaused, paused_is, paused_back, unpaused_good, paused_good, stretch_ready}
use Rattle.machine_console.specs.Console.{Console, console, line, device_step, running, turn}
use Rattle.machine_console.specs.Rounds.{refreshed, limit, resumed, taken, worked, begun_at, finished_at, round}
use Rattle.machine_console.proofs.Keeps.{ConsoleFit, SessionFit, line_lt, device_fit}
use Rattle.machine_console.proofs.Quiet.{standing, finished, Quiet, unprinted, quiet_turn, quiet_stays, device_turn_lem, tested_turn, untested_turn}

-- ---- RUN

run_one : (n : ℕ) → n < 2 → on n ≡ true → n ≡ 1
run_one zero h e = absurd (false≢true e)
run_one (suc zero) h e = refl
run_one (suc (suc n)) h e = absurd (omega arith)

-- ---- a step of the stretch

pauses : (s : State) → is_device (word s.pc s) ≡ true → advance true s ≡ paused_at s.pc s
unfolding advance
pauses s e = case_true (is_device (word s.pc s)) (paused_at s.pc s) (step s) e

steps_on : (s : State) → is_device (word s.pc s) ≡ false → advance true s ≡ step s
unfolding advance
steps_on s e = case_false (is_device (word s.pc s)) (paused_at s.pc s) (step s) e

-- a state that is not paused is left as it is, and one that is has its device's word done
resumed_going : (c : Devices) (s : State) (l p : List ℕ) → Settled c l → Good s → finished (resumed c s) l p ≡ standing s c l p
unfolding resumed
resumed_going c s l p t g =
    ap (λ (x : Console). finished x l p) (case_false (is_paused s) (device_step (console (unpaused s) c)) (console s c) (good_unpaused g))
    ∙ unprinted s p t

resumed_paused : (c : Devices) (s : State) → s.run ≡ 1 → resumed c (paused_at s.pc s) ≡ device_step (console s c)
unfolding resumed
resumed_paused c s e =
    let p : State = paused_at s.pc s in
    case_true (is_paused p) (device_step (console (unpaused p) c)) (console p c) (paused_is s)
    ∙ ap (λ (x : State). device_step (console x c)) (paused_back s ∙ ap (λ (r : ℕ). with_run r s) (sym e))

resumed_fits : {c : Devices} {s : State} → Ready s → DevicesFit c → ConsoleFit (resumed c s)
unfolding resumed
resumed_fits {c} {s} r f =
    by_case ConsoleFit (is_paused s)
    (λ t. device_fit {x = console (unpaused s) c} (record { state = paused_good t r; devices = f }))
    (λ t. record { state = unpaused_good t r; devices = f })

-- ---- a stretch

module _ (room : ℕ) where
  abbrev from : ℕ → ℕ → Session Console → Ended (Session Console)
  from left done x = run_from (goes_on running room) turn left done x

  same_left : (a b done : ℕ) (x : Session Console) → a ≡ b → from a done x ≡ from b done x
  same_left a b done x e = ap (λ (n : ℕ). from n done x) e

  goes_on_lem : (x : Session Console) → on x.engine.state.run ≡ true → place_left room x ≡ true → goes_on running room x ≡ true
  goes_on_lem x e h = ap (λ (b : Bool). b && place_left room x) e ∙ h

  -- what is left of the run after a stretch that began with `left` steps of `budget` left
  abbrev after : ℕ → Devices → List ℕ → List ℕ → Ended State → Ended (Session Console)
  after budget c l p t = from (budget - t.steps) t.steps (finished (resumed c t.left) l p)

  stretch_is : (budget left done : ℕ) (s : State) (c : Devices) (l p : List ℕ) → budget ≡ left + done → Good s → Quiet s c l
      → ltb (length p) room ≡ true → from left done (standing s c l p) ≡ after budget c l p (stretch_from true left done s)
  unfolding run_from
  stretch_is budget zero done s c l p b g q h =
      ap (from zero done) (sym (resumed_going c s l p q.settled g))
      ∙ same_left zero (budget - done) done (finished (resumed c s) l p) (omega (arith, b))
  stretch_is budget (suc left) done s c l p b g q h =
      let x = standing s c l p in
      by_test (on s.run)
      (λ m.
      let one : on s.run ≡ true = m in
      run_step (goes_on running room) turn left done x (goes_on_lem x one h)
      ∙ by_test (is_device (word s.pc s))
      (λ d. ap (from left (suc done)) (device_turn_lem s c l p q.settled d
      ∙ ap (λ (y : Console). finished y l p) (sym (resumed_paused c s (run_one s.run g.run one))))
      ∙ same_left left (budget - suc done) (suc done) (finished (resumed c (paused_at s.pc s)) l p) (omega (arith, b))
      ∙ ap (after budget c l p)
      (sym (run_step steps.running (advance true) left done s m
      ∙ ap (stretch_from true left (suc done)) (pauses s d)
      ∙ run_stops steps.running (advance true) left (suc done) (paused_at s.pc s) refl)))
      (λ d. ap (from left (suc done)) (quiet_turn s c l p q d)
      ∙ stretch_is budget left (suc done) (step s) c l p (b ∙ suc-add left done ∙ sym (add-suc left done)) (step_good g) (quiet_stays q) h
      ∙ ap (after budget c l p)
      (sym (run_step steps.running (advance true) left done s m ∙ ap (stretch_from true left (suc done)) (steps_on s d)))))
      (λ m.
      same_left (suc left) (budget - done) done x (omega (arith, b))
      ∙ ap (from (budget - done) done) (sym (resumed_going c s l p q.settled g))
      ∙ ap (after budget c l p) (sym (run_stops steps.running (advance true) (suc left) done s m)))

  -- ---- a round

  abbrev onward : ℕ → Ended (Session Console) → Ended (Session Console)
  onward budget r = from (budget - r.steps) r.steps r.left

  -- a round that ended with r, from x after `done` steps: the run goes on from r, and r is further
  pub record Turned (budget done : ℕ) (x : Session Console) (r : Ended (Session Console)) : Type 0 where
    pub same : from (budget - done) done x ≡ onward budget r
    pub more : done < r.steps
    pub within : r.steps ≤ budget
    pub fits : SessionFit r.left

  -- a run, and one whose first step leaves the same
  next_turn : (left done : ℕ) (x y : Session Console) → 0 < left → goes_on running room x ≡ true → goes_on running room y ≡ true → turn x ≡ turn y
      → from left done x ≡ from left done y
  next_turn zero done x y h e f t = absurd (omega arith)
  next_turn (suc left) done x y h e f t =
      run_step (goes_on running room) turn left done x e ∙ ap (from left (suc done)) t ∙ sym (run_step (goes_on running room) turn left done y f)

  -- steps of a stretch that begins
  some : (left done : ℕ) (s : State) → 0 < left → on s.run ≡ true
      → (done < (stretch_from true left done s).steps) × ((stretch_from true left done s).steps ≤ done + left)
  some zero done s h m = absurd (omega arith)
  some (suc left) done s h m =
      let y = advance true s in
      let count = ap (λ (t : Ended State). t.steps) (from_following steps.running (advance true) left (suc done) y) in
      let few = steps_within steps.running (advance true) left y in
      subst (λ (t : Ended State). (done < t.steps) × (t.steps ≤ done + suc left)) (sym (run_step steps.running (advance true) left done s m))
      (omega (arith, count), omega (arith, count, few))

  module _ (budget done : ℕ) (x : Session Console) (f : SessionFit x) (h : done < budget) (e : goes_on running room x ≡ true) where
    abbrev s : State
    s = x.engine.state

    abbrev c : Devices
    c = (begun_at x).devices

    abbrev l : List ℕ
    l = unread_after x.engine.devices x.unread

    one : on s.run ≡ true
    one = and_left (on s.run) (place_left room x) e

    place : place_left room x ≡ true
    place = and_right (on s.run) (place_left room x) e

    fit : DevicesFit c
    fit = begun_fit f.unread f.engine.devices

    good : Good s
    good = f.engine.state

    settled : Settled c l
    settled = begun_settled x.engine.devices x.unread

    -- a round whose stretch has `left` steps, from y, whose RUN is x's
    abbrev made : Ended State → Ended (Session Console)
    made t = finished_at x (taken c t)

    turned : (left : ℕ) (y : State) → 0 < left → left ≤ budget - done → Good y → on y.run ≡ true
        → from (budget - done) done x ≡ onward budget (made (stretch_from true left done y)) → Turned budget done x (made (stretch_from true left done y))
    turned left y some_left most g m same =
        let grown = some left done y some_left m in
        record {
          same = same;
          more = grown.0;
          within = omega (arith, grown.1, most, h);
          fits = record { engine = resumed_fits (stretch_ready true left done y g) fit; unread = unread_bytes x.engine.devices f.unread };
        }

    unfoldable refresh : State
    refresh = with_request (line c) s

    tested : makes_test (word s.pc s) ≡ true → Turned budget done x (made (stretch_from true (budget - done) done refresh))
    unfolding refresh
    tested t =
        let g = request_good (line_lt (fit_flags fit)) good in
        turned (budget - done) refresh (omega (arith, h)) (omega arith) g one
        (next_turn (budget - done) done x (standing refresh c l x.printed) (omega (arith, h)) e e
        (tested_turn s x.engine.devices x.unread x.printed t)
        ∙ stretch_is budget (budget - done) done refresh c l x.printed (omega (arith, h)) g (record { settled = settled; request = refl }) place)

    single : makes_test (word s.pc s) ≡ false → stretch_from true 1 done s ≡ ended (suc done) (step s)
    unfolding run_from
    single t =
        run_step steps.running (advance true) 0 done s one
        ∙ ap (ended (suc done)) (steps_on s (untested_plain (word s.pc s) t))

    untested : makes_test (word s.pc s) ≡ false → Turned budget done x (made (stretch_from true 1 done s))
    untested t =
        let left : budget - done ≡ suc (budget - suc done) = omega (arith, h) in
        turned 1 s (lit< tt) (omega (arith, h)) good one
        (same_left (budget - done) (suc (budget - suc done)) done x left
        ∙ run_step (goes_on running room) turn (budget - suc done) done x e
        ∙ ap (from (budget - suc done) (suc done))
        (untested_turn s x.engine.devices x.unread x.printed t
        ∙ sym (resumed_going c (step s) l x.printed settled (step_good good)))
        ∙ ap (λ (r : Ended State). onward budget (made r)) (sym (single t)))

    pub round_turned : Turned budget done x (round (budget - done) done x)
    unfolding round worked refreshed limit refresh
    round_turned =
        let Goal : Bool → Type 0 = λ (b : Bool). Turned budget done x (made (stretch_from true (pick b (budget - done) 1) done (pick b refresh s))) in
        by_test (makes_test (word s.pc s)) (λ t. subst Goal (sym t) (tested t)) (λ t. subst Goal (sym t) (untested t))
