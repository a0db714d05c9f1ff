-- `machine_reference::address::first_address` joins the two parts that its definition joins.
use mathlib.Core.Path.{ap₂, ◌∙◌}
use Rattle.machine_reference.specs.Address.{address, first_address}
use Rattle.machine_reference.proofs.Addresses.{page_lt, pa_lt}
use Rattle.machine_reference.proofs.address.first_address.Goals as goal

pub joined-requires : goal.joined-requires
joined-requires c = record { page = rw c.page.ensures (page_lt c.args.i c.args.last); within = rw c.page_address.ensures (pa_lt c.args.i) }

pub returns : goal.returns
unfolding first_address
returns c = c.joined.ensures ∙ ap₂ address c.page.ensures c.page_address.ensures
