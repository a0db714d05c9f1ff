-- `machine_console::run::run_devices`: what is left of the budget, from the session that is reached, has the run of the whole.
use mathlib.Core.Path.{sym, ◌∙◌}
use native.Mathlib.Omega.{arith}
use Rattle.machine_state.specs.Processor.{at}
use Rattle.machine_console.proofs.Kept.{kept_first, loop_ends, steps_left, begun_kept, place_left_lem, byte_fits, work_grows, kept_again}
use Rattle.machine_console.proofs.run.run_devices.Goals as goal

pub loop-b-init : goal.loop-b-init
loop-b-init c = (
  kept_first (at c.args.p c.args.memory.now) c.args.c c.args.budget c.args.input.now c.args.output.now
      c.requires.good c.requires.fit (record { each = λ k. omega (arith, c.shared_slice_known-1.given k) }),
  c.requires.good.memory.size,
)

pub begin-b-requires : goal.begin-b-requires
begin-b-requires c = c.loop-b.invariant.0.most_read

pub work-w-requires : goal.work-w-requires
work-w-requires c = record { good = c.loop-b.invariant.0.fits.engine.state; fit = begun_kept c.loop-b.invariant.0 c.goes_on.ensures c.loop-b-test.true c.begin-b.ensures; left = steps_left c.loop-b.invariant.0 c.goes_on.ensures c.loop-b-test.true c.begin-b.ensures }

pub print-printed-requires : goal.print-printed-requires
print-printed-requires c = record { room = place_left_lem c.loop-b.invariant.0 c.goes_on.ensures c.loop-b-test.true c.begin-b.ensures; byte = byte_fits c.loop-b.invariant.0 c.goes_on.ensures c.loop-b-test.true c.begin-b.ensures c.work-w.ensures }

pub loop-b-smaller : goal.loop-b-smaller
loop-b-smaller c = let more = work_grows c.loop-b.invariant.0 c.goes_on.ensures c.loop-b-test.true c.begin-b.ensures c.work-w.ensures in
    let left = steps_left c.loop-b.invariant.0 c.goes_on.ensures c.loop-b-test.true c.begin-b.ensures in
    omega (arith, more, left)

pub loop-b-preserved : goal.loop-b-preserved
loop-b-preserved c = let again = kept_again c.loop-b.invariant.0 c.goes_on.ensures c.loop-b-test.true c.begin-b.ensures c.work-w.ensures c.print-printed.ensures in
    (again, again.fits.engine.state.memory.size)

pub shape_of-memory : goal.shape_of-memory
shape_of-memory c = c.loop-b.invariant.1 ∙ sym c.requires.good.memory.size

pub shape_of-output : goal.shape_of-output
shape_of-output c = c.loop-b.invariant.0.printing.size

pub returns : goal.returns
returns c = record {
  same = loop_ends c.loop-b.invariant.0 c.goes_on.ensures c.loop-b-test.false;
  size = c.loop-b.invariant.0.printing.size;
  buffer = c.loop-b.invariant.0.printing.buffer;
  read = c.loop-b.invariant.0.most_read;
  printed = omega (arith, c.loop-b.invariant.0.printing.count, c.loop-b.invariant.0.printing.size);
}
