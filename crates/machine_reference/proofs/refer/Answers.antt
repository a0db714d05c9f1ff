-- `machine_reference::refer`: where ib is 0 the op's function has the first address.
use Rattle.std.proofs.Common.{rules}
use Rattle.machine_reference.proofs.Refers.{ib_left, first_and_to, first_add_to, first_increment_and_skip, first_deposit, first_call_at, first_jump_to}
use Rattle.machine_reference.proofs.refer.Goals as goal

-- else ib is 1
pub refer_indirectly-requires : goal.refer_indirectly-requires
refer_indirectly-requires c = record { good = c.requires.good; op = c.requires.op; indirect = ib_left c.args.i c.requires.op (search rules) }

pub returns-in-0 : goal.returns-in-0
returns-in-0 c = search (rules, first_and_to c.args.i c.args.last)

pub returns-in-2 : goal.returns-in-2
returns-in-2 c = search (rules, first_add_to c.args.i c.args.last)

pub returns-in-4 : goal.returns-in-4
returns-in-4 c = search (rules, first_increment_and_skip c.args.i c.args.last)

pub returns-in-6 : goal.returns-in-6
returns-in-6 c = search (rules, first_deposit c.args.i c.args.last)

pub returns-in-8 : goal.returns-in-8
returns-in-8 c = search (rules, first_call_at c.args.i c.args.last)

pub returns-in-10 : goal.returns-in-10
returns-in-10 c = search (rules, first_jump_to c.args.i c.args.last)

pub returns-in_default : goal.returns-in_default
returns-in_default c = c.refer_indirectly.ensures
