-- `machine_console::instructions::skip_on_flag`: the code's test is the definition's.
use Rattle.machine_console.proofs.instructions.skip_on_flag.Goals as goal

pub returns : goal.returns
returns c = cc
