-- `machine_console::instructions::device_word`: the word's changes, and the interrupt test.
use Rattle.machine_state.specs.Processor.{at}
use Rattle.machine_console.proofs.Words.{word_done, word_tests}
use Rattle.machine_console.proofs.instructions.device_word.Goals as goal

pub interrupt_test-r-requires : goal.interrupt_test-r-requires
interrupt_test-r-requires c =
    let told = word_tests (at c.args.p c.args.memory.now) c.args.c _ _ _ _ _ _ c.load-i.ensures c.increment.ensures
    c.skip_on_flag.ensures c.accumulate.ensures c.change_devices-d.ensures c.line.ensures c.requires.good c.requires.fit in
    record { first_word = told.0; pc = told.1.0; enable = told.1.1.0; request = told.1.1.1 }

pub returns : goal.returns
returns c = word_done (at c.args.p c.args.memory.now) c.args.c _ _ _ _ _ _ c.load-i.ensures c.increment.ensures
    c.skip_on_flag.ensures c.accumulate.ensures c.change_devices-d.ensures c.line.ensures _ c.interrupt_test-r.ensures
