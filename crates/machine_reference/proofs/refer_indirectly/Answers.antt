-- `machine_reference::refer_indirectly`: the address is worked out once, and the op's function has it and the memory that it left.
use Rattle.std.proofs.Common.{rules}
use Rattle.machine_reference.proofs.Refers.{none_left, ready, found_and_to, found_add_to, found_increment_and_skip, found_deposit, found_call_at, found_jump_to}
use Rattle.machine_reference.proofs.refer_indirectly.Goals as goal

pub returns-in-1 : goal.returns-in-1
returns-in-1 c = search (rules, found_and_to c.args.i c.args.last)

pub returns-in-3 : goal.returns-in-3
returns-in-3 c = search (rules, found_add_to c.args.i c.args.last)

pub returns-in-5 : goal.returns-in-5
returns-in-5 c = search (rules, found_increment_and_skip c.args.i c.args.last)

pub returns-in-7 : goal.returns-in-7
returns-in-7 c = search (rules, found_deposit c.args.i c.args.last)

pub returns-in-9 : goal.returns-in-9
returns-in-9 c = search (rules, found_call_at c.args.i c.args.last)

pub returns-in-11 : goal.returns-in-11
returns-in-11 c = search (rules, found_jump_to c.args.i c.args.last)

-- nothing else comes here
pub returns-in_default : goal.returns-in_default
returns-in_default c = absurd (none_left c.args.i c.requires.op c.requires.indirect (search rules))

pub and_to-requires : goal.and_to-requires
and_to-requires c = search (rules, ready c.args.i c.args.last c.args.p c.args.memory.now)

pub add_to-requires : goal.add_to-requires
add_to-requires c = search (rules, ready c.args.i c.args.last c.args.p c.args.memory.now)

pub increment_and_skip-requires : goal.increment_and_skip-requires
increment_and_skip-requires c = search (rules, ready c.args.i c.args.last c.args.p c.args.memory.now)

pub deposit_at-requires : goal.deposit_at-requires
deposit_at-requires c = search (rules, ready c.args.i c.args.last c.args.p c.args.memory.now)

pub call_at-requires : goal.call_at-requires
call_at-requires c = search (rules, ready c.args.i c.args.last c.args.p c.args.memory.now)

pub jump_to-requires : goal.jump_to-requires
jump_to-requires c = search (rules, ready c.args.i c.args.last c.args.p c.args.memory.now)
