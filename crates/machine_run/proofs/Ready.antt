-- What a stretch leaves: a good state, or one that is good but for its pause; and that one without devices is a run.
-- Assumes nothing.
use mathlib.Core.Path.{◌≡◌, refl, sym, ap, ◌∙◌, subst}
use mathlib.Core.Bool.{Bool, true, false, false≢true, ◌&&◌}
use Prim.Native.Nat.{ℕ, ◌+◌, ◌-◌, ◌^◌, ◌<◌}
use native.Mathlib.Nat.{sub-zero}
use native.Mathlib.Omega.{arith}
use lib.Dec.{lit<}
use lib.ListN.{length}
use borrow.Author.Tests.{le-leb, lt-leb}
use Rattle.laws.proofs.Tests.{by_test, by_case, not_so}
use Rattle.word.specs.Choice.{on}
use Rattle.word.proofs.Choice.{case_true, case_false}
use Rattle.state.specs.Limits.{memory_words}
use Rattle.runs.proofs.Runs.{keeps_from}
use Rattle.machine_state.specs.State.{State, lac_bits, Good, word, with_lac, with_run}
use Rattle.machine_state.specs.Instruction.{is_device}
use Rattle.machine_state.proofs.Keeps.{run_good}
use Rattle.machine_run.specs.Run.{running, run}
use Rattle.machine_run.specs.Stretch.{paused_at, is_paused, unpaused, Ready, advance, stretch_from}
use Rattle.machine_run.proofs.Keeps.{step_good}

-- ---- a pause and its end

pub good_unpaused : {s : State} → Good s → is_paused s ≡ false
good_unpaused {s} g = lt-leb (2 ^ lac_bits) s.lac g.lac

pub paused_is : (s : State) → is_paused (paused_at s.pc s) ≡ true
paused_is s = le-leb (2 ^ lac_bits) (s.lac + 2 ^ lac_bits) (omega arith)

back : (n : ℕ) → n + 2 ^ lac_bits - 2 ^ lac_bits ≡ n
back n = omega arith

-- a pause leaves everything but RUN and LAC, and its end gives them back
pub paused_back : (s : State) → unpaused (paused_at s.pc s) ≡ with_run 1 s
paused_back s = ap (λ (n : ℕ). with_lac n (with_run 1 s)) (back s.lac)

-- ---- what a stretch leaves

pub good_ready : {s : State} → Good s → Ready s
good_ready {s} g =
    let going = good_unpaused g in
    record { good = subst Good (sym (case_false (is_paused s) (unpaused s) s going)) g; stopped = λ e. not_so (is_paused s) e going }

pub unpaused_good : {s : State} → is_paused s ≡ false → Ready s → Good s
unpaused_good {s} e r = subst Good (case_false (is_paused s) (unpaused s) s e) r.good

pub paused_good : {s : State} → is_paused s ≡ true → Ready s → Good (unpaused s)
paused_good {s} e r = subst Good (case_true (is_paused s) (unpaused s) s e) r.good

pub moving_good : {s : State} → running s ≡ true → Ready s → Good s
moving_good {s} m r =
    by_test (is_paused s)
    (λ t. absurd (false≢true (ap on (sym (r.stopped t)) ∙ m)))
    (λ t. unpaused_good t r)

pub ready_run : {s : State} → Ready s → s.run < 2
ready_run {s} r = by_test (is_paused s) (λ t. let e = r.stopped t in omega (arith, e)) (λ t. (unpaused_good t r).run)

pub ready_size : {s : State} → Ready s → length s.memory ≡ memory_words
ready_size {s} r = by_test (is_paused s) (λ t. (paused_good t r).memory.size) (λ t. (unpaused_good t r).memory.size)

pause_ready : {s : State} → Good s → Ready (paused_at s.pc s)
pause_ready {s} g =
    let p : State = paused_at s.pc s in
    record {
      good = subst Good (sym (case_true (is_paused p) (unpaused p) p (paused_is s) ∙ paused_back s)) (run_good (lit< tt) g);
      stopped = λ e. refl;
    }

pub advance_ready : (devices : Bool) (s : State) → running s ≡ true → Ready s → Ready (advance devices s)
unfolding advance
advance_ready devices s m r =
    let g = moving_good m r in
    by_case Ready (devices && is_device (word s.pc s)) (λ t. pause_ready g) (λ t. good_ready (step_good g))

pub stretch_ready : (devices : Bool) (left done : ℕ) (s : State) → Good s → Ready (stretch_from devices left done s).left
stretch_ready devices left done s g = keeps_from running (advance devices) Ready (advance_ready devices) left done s (good_ready g)

-- ---- without devices a stretch is a run

pub plain_stretch : (budget : ℕ) (s : State) → stretch_from false (budget - 0) 0 s ≡ run budget s
unfolding advance
plain_stretch budget s = ap (λ (n : ℕ). stretch_from false n 0 s) (sub-zero budget)
