-- `rows_cycles::attached::devices_at`: five values.
use Rattle.rows_cycles.proofs.Begins.{read_each}
use borrow.Author.Rules.{rules}
use Rattle.rows_cycles.proofs.attached.devices_at.Goals as goal

pub returns : goal.returns
returns c = read_each c.args.places (search rules) c.args.r _ (cc)
