-- `rows_cycles::attached::with_devices`: five stores.
use mathlib.Core.Path.{refl}
use Rattle.rows_cycles.proofs.Begins.{put_each}
use borrow.Author.Rules.{rules}
use Rattle.rows_cycles.proofs.attached.with_devices.Goals as goal

pub returns : goal.returns
returns c = put_each c.args.places (search rules) c.args.r _ c.args.c refl
