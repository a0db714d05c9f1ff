-- `emulator::all_widths`: the two tables, one behind the other.
use Rattle.emulator.proofs.all_widths.Goals as goal

pub returns : goal.returns
returns c = rw (c.widths-a.ensures, c.widths-b.ensures)
