-- The lines that are left of a run: one step's line and the lines after it, or the last line. And a run half listed.
-- Assumes nothing.
use mathlib.Core.Path.{◌≡◌, refl, sym, ap, ◌∙◌, subst}
use mathlib.Core.Bool.{true, false, not}
use mathlib.Core.Logic.{◌⊎◌, inl, inr}
use mathlib.Core.List.{List, [], ◌++◌, append_assoc, append-nil}
use Prim.Native.Nat.{ℕ, zero, suc, ◌+◌, ◌*◌, ◌-◌, ◌≤◌, ◌<◌}
use native.Mathlib.Nat.{not-suc-le-zero}
use native.Mathlib.Numerals.{add-one, sub-one}
use native.Mathlib.Omega.{arith}
use borrow.Author.Tests.{eq-eqb}
use Rattle.word.specs.Choice.{on}
use Rattle.state.specs.Refusals.{reason_of}
use Rattle.runs.specs.Run.{run_from}
use Rattle.machine_state.specs.State.{State, word, Good}
use Rattle.machine_run.specs.Step.{step}
use Rattle.machine_run.specs.Run.{running}
use Rattle.machine_run.proofs.Keeps.{step_good}
use Rattle.desk_last_lines.specs.LastLines.{end_line}
use Rattle.desk_day_listing.specs.Listing.{budget, ready, heading, step_line, step_lines, run_listing}
use lib.ListN.{length}
use Rattle.desk_day_listing.specs.Stepped.{step_line_bytes}
use Rattle.page.proofs.Writing.{drafted_then, drafted_more, drafted_size}
use Rattle.desk_day_listing.proofs.Sizes.{step_line_size}

-- `left` steps of the budget are left, and `done` steps have been done
abbrev pub rest : ℕ → ℕ → State → List ℕ
rest left done s =
    let r = run_from running step left done s in
    step_lines left done s ++ end_line r.steps (reason_of r.left.run)

-- a step is left, and RUN is 1: its line, and the lines after it
rest_on : (left done : ℕ) (s t : State) → 0 < left → on s.run ≡ true → t ≡ step s
    → rest left done s ≡ step_line (done + 1) s.pc (word s.pc s) t.lac t.run ++ rest (left - 1) (done + 1) t
unfolding step_lines run_from
rest_on zero done s t h e q = absurd (not-suc-le-zero h)
rest_on (suc left) done s t h e q =
    rw (sub-one (suc left), add-one done, q, e, step_lines, run_from)
    (append_assoc (step_line (suc done) s.pc (word s.pc s) (step s).lac (step s).run) _ _)

-- no step more, since RUN is 0 or the budget is done: the last line
rest_halted : (left done : ℕ) (s : State) → on s.run ≡ false → rest left done s ≡ end_line done (reason_of s.run)
unfolding step_lines run_from
rest_halted zero done s e = refl
rest_halted (suc left) done s e = rw (e, step_lines, run_from) (rw e)

rest_spent : (done : ℕ) (s : State) → rest 0 done s ≡ end_line done (reason_of s.run)
unfolding step_lines run_from
rest_spent done s = refl

-- before the first step all lines but the heading are left
pub run_listing_lem : (memory : List ℕ) → run_listing memory ≡ heading ++ rest budget 0 (ready memory)
unfolding run_listing
run_listing_lem memory = append_assoc heading (step_lines budget 0 (ready memory)) _

-- ---- a run from s₀, listed behind a draft as far as the state s

pub record Listed (s₀ : State) (draft₀ : List ℕ) (s : State) (draft : List ℕ) (done : ℕ) : Type 0 where
  pub text : List ℕ
  pub written : draft ≡ draft₀ ++ text
  pub whole : rest budget 0 s₀ ≡ text ++ rest (budget - done) done s
  pub good : Good s
  pub count : done ≤ budget
  pub room : length draft ≤ length draft₀ + step_line_bytes * done

pub listed_none : (s : State) (draft : List ℕ) → Good s → Listed s draft s draft 0
listed_none s draft g =
    record { text = []; written = sym (append-nil draft); whole = refl; good = g; count = omega arith; room = omega arith }

module _ {s₀ s : State} {draft₀ draft after : List ℕ} {done : ℕ} (l : Listed s₀ draft₀ s draft done) where
  -- one step more
  pub listed_more : {t : State} → done < budget → on s.run ≡ true → t ≡ step s
      → after ≡ draft ++ step_line (done + 1) s.pc (word s.pc s) t.lac t.run → Listed s₀ draft₀ t after (done + 1)
  listed_more {t} h e q w =
      let line = step_line (done + 1) s.pc (word s.pc s) t.lac t.run in
      let left : budget - done - 1 ≡ budget - (done + 1) = omega arith in
      record {
        text = l.text ++ line;
        written = drafted_then draft₀ l.text line l.written w;
        whole =
            l.whole ∙ ap (λ (x : List ℕ). l.text ++ x) (rest_on (budget - done) done s t (omega arith) e q)
            ∙ sym (append_assoc l.text line _) ∙ ap (λ (n : ℕ). l.text ++ line ++ rest n (done + 1) t) left;
        good = subst Good (sym q) (step_good l.good);
        count = omega arith;
        room = omega (arith, l.room, drafted_size draft line w, step_line_size (done + 1) s.pc (word s.pc s) t.lac t.run (omega arith));
      }

  -- the last line
  pub listed_all : (budget ≤ done) ⊎ (s.run ≡ 0) → after ≡ draft ++ end_line done (reason_of s.run) → after ≡ draft₀ ++ rest budget 0 s₀
  listed_all d w =
      drafted_more draft₀ l.text (end_line done (reason_of s.run)) (l.whole ∙ ap (λ (x : List ℕ). l.text ++ x) (last d)) l.written w
    where
      last : (budget ≤ done) ⊎ (s.run ≡ 0) → rest (budget - done) done s ≡ end_line done (reason_of s.run)
      last (inl h) = let none : budget - done ≡ 0 = omega (arith, l.count) in rw none (rest_spent done s)
      last (inr h) = rest_halted (budget - done) done s (ap not (eq-eqb s.run 0 h))
