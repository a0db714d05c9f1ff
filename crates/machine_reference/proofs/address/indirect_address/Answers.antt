-- `machine_reference::address::indirect_address`: the word at the first address, after auto-indexing.
use mathlib.Core.Path.{ap}
use native.Mathlib.Omega.{arith}
use Rattle.word.specs.Choice.{on}
use Rattle.machine_reference.proofs.Addresses.{effective_lt, first_address_lt, indirect}
use Rattle.machine_reference.proofs.address.indirect_address.Goals as goal

pub load-requires : goal.load-requires
load-requires c = let h = first_address_lt c.args.i c.args.last in
    omega (arith, c.first_address-first.ensures, c.auto_index.auto.memory, c.requires.acceptable.size)

pub invariant_of-result : goal.invariant_of-result
invariant_of-result c =
    let found = indirect c.args.i c.args.last _ c.args.memory.now c.first_address-first.ensures _ _ (ap on c.requires.indirect) c.auto_index.ensures c.load.ensures in
    record { in_memory = rw found.address (effective_lt c.args.i c.args.last c.requires.acceptable) }

pub returns : goal.returns
returns c = indirect c.args.i c.args.last _ c.args.memory.now c.first_address-first.ensures _ _
    (ap on c.requires.indirect)
    c.auto_index.ensures
    c.load.ensures
