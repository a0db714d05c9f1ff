-- `machine_run::run::stretch`: what is left up to the limit, from the state that is reached, has the stretch of the whole.
use mathlib.Core.Path.{refl, sym, ap, ◌∙◌, subst}
use Prim.Native.Nat.{ℕ, ◌+◌, ◌-◌}
use native.Mathlib.Omega.{arith}
use Rattle.word.specs.Choice.{on, pick}
use Rattle.machine_state.specs.Processor.{at}
use Rattle.runs.proofs.Runs.{run_on, below_bound, run_bound}
use Rattle.machine_run.specs.Run.{running}
use Rattle.machine_run.specs.Stretch.{Ready, advance, stretch_from}
use Rattle.machine_run.proofs.Ready.{good_ready, ready_run, ready_size, moving_good, advance_ready}
use Rattle.machine_run.proofs.run.stretch.Goals as goal

pub bound-end-requires : goal.bound-end-requires
bound-end-requires c = c.requires.good.run

pub loop-steps-init : goal.loop-steps-init
loop-steps-init c = (c.requires.done, good_ready c.requires.good, refl, c.bound-end.ensures, c.requires.good.memory.size)

pub step-q-requires : goal.step-q-requires
step-q-requires c = let below = below_bound _ _ _ (running (at c.loop-steps.q c.loop-steps.memory)) c.loop-steps.invariant.3 c.loop-steps-test.true in
    moving_good below.1 c.loop-steps.invariant.1

pub overflow_add-steps : goal.overflow_add-steps
overflow_add-steps c = let below = below_bound _ _ _ (running (at c.loop-steps.q c.loop-steps.memory)) c.loop-steps.invariant.3 c.loop-steps-test.true in
    omega (arith, below.0)

pub bound-end-requires-in-loop-steps : goal.bound-end-requires-in-loop-steps
bound-end-requires-in-loop-steps c = let s = at c.loop-steps.q c.loop-steps.memory in
    let below = below_bound _ _ _ (running s) c.loop-steps.invariant.3 c.loop-steps-test.true in
    ready_run (subst Ready (sym c.step-q.ensures) (advance_ready c.args.devices s below.1 c.loop-steps.invariant.1))

pub loop-steps-smaller : goal.loop-steps-smaller
loop-steps-smaller c = let below = below_bound _ _ _ (running (at c.loop-steps.q c.loop-steps.memory)) c.loop-steps.invariant.3 c.loop-steps-test.true in
    omega (arith, below.0)

pub loop-steps-preserved : goal.loop-steps-preserved
loop-steps-preserved c = let s = at c.loop-steps.q c.loop-steps.memory in
    let below = below_bound _ _ _ (running s) c.loop-steps.invariant.3 c.loop-steps-test.true in
    let kept = subst Ready (sym c.step-q.ensures) (advance_ready c.args.devices s below.1 c.loop-steps.invariant.1) in (
      omega (arith, below.0),
      kept,
      c.loop-steps.invariant.2
          ∙ run_on running (advance c.args.devices) c.args.limit c.loop-steps.steps s below.0 below.1
          ∙ ap (stretch_from c.args.devices (c.args.limit - (c.loop-steps.steps + 1)) (c.loop-steps.steps + 1)) (sym c.step-q.ensures),
      c.bound-end-in-loop-steps.ensures ∙ ap (λ (n : ℕ). pick (on c.step-q.result.run) n 0) below.2,
      ready_size kept,
    )

pub shape_of-memory : goal.shape_of-memory
shape_of-memory c = c.loop-steps.invariant.4 ∙ sym c.requires.good.memory.size

pub returns : goal.returns
returns c = sym (c.loop-steps.invariant.2 ∙ run_bound running (advance c.args.devices) c.args.limit c.loop-steps.steps _ (at c.loop-steps.q c.loop-steps.memory) c.loop-steps.invariant.3 c.loop-steps-test.false)
