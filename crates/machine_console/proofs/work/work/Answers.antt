-- `machine_console::work::work`: a stretch, and the word before which it paused.
use Rattle.machine_state.specs.Processor.{at}
use Rattle.machine_console.proofs.Works.{work_begins, work_resumes, work_paused, work_going}
use Rattle.machine_console.proofs.work.work.Goals as goal

pub stretch-t-requires : goal.stretch-t-requires
stretch-t-requires c = let h = let s = at c.args.p c.args.memory.now in
    work_begins s c.args.c c.args.steps c.args.budget _ _ _ _ _ c.load.ensures c.makes_test-tests.ensures c.line.ensures
    c.pick.ensures c.pick-2.ensures c.requires.good c.requires.fit c.requires.left in
    record { good = h.0; done = h.1 }

pub device_word-x-requires : goal.device_word-x-requires
device_word-x-requires c = let s = at c.args.p c.args.memory.now in record {
  good = work_resumes s c.args.c c.args.steps c.args.budget _ _ _ _ _ c.load.ensures c.makes_test-tests.ensures c.line.ensures
      c.pick.ensures c.pick-2.ensures _ _ c.stretch-t.ensures c.requires.good c.requires.fit c.requires.left c.if-r-ge-PAUSED.true;
  fit = c.requires.fit;
}

pub returns-then-r-ge-PAUSED : goal.returns-then-r-ge-PAUSED
returns-then-r-ge-PAUSED c = let s = at c.args.p c.args.memory.now in
    work_paused s c.args.c c.args.steps c.args.budget _ _ _ _ _ c.load.ensures c.makes_test-tests.ensures c.line.ensures
    c.pick.ensures c.pick-2.ensures _ _ c.stretch-t.ensures _ c.if-r-ge-PAUSED.true c.device_word-x.ensures

pub returns : goal.returns
returns c = let s = at c.args.p c.args.memory.now in
    work_going s c.args.c c.args.steps c.args.budget _ _ _ _ _ c.load.ensures c.makes_test-tests.ensures c.line.ensures
    c.pick.ensures c.pick-2.ensures _ _ c.stretch-t.ensures c.if-r-ge-PAUSED.false
