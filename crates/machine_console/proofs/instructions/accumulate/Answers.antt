-- `machine_console::instructions::accumulate`: two choices by the word.
use Rattle.machine_console.proofs.Words.{accumulated_is}
use Rattle.std.proofs.Common.{rules}
use Rattle.machine_console.proofs.instructions.accumulate.Goals as goal

pub returns : goal.returns
returns c = accumulated_is c.args.i c.args.c c.args.lac _ _ _ c.pick-cleared.ensures (search (rules, c.or_byte.ensures)) c.pick.ensures
