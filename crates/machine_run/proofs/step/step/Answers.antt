-- `machine_run::step::step` fetches, increases PC and goes by the op.
use mathlib.Core.Path.{◌∙◌}
use native.Mathlib.Omega.{arith}
use Rattle.machine_state.specs.Processor.{at}
use Rattle.machine_run.proofs.Advances.{advance_six, advance_rest}
use Rattle.machine_run.proofs.Steps.{op_of, bit_3_of, op_left, counted_good, op_6, op_7, op_7_first, ops_0_to_5}
use Rattle.machine_run.proofs.step.step.Goals as goal

pub first_group-requires : goal.first_group-requires
first_group-requires c = record { good = counted_good (at c.args.p c.args.memory.now) _ c.increment.ensures c.requires; first = bit_3_of _ 14 c.in-14.is }

pub other_groups-requires : goal.other_groups-requires
other_groups-requires c = record { good = counted_good (at c.args.p c.args.memory.now) _ c.increment.ensures c.requires; other = bit_3_of _ 15 c.in-15.is }

pub refer-requires : goal.refer-requires
refer-requires c = record { good = counted_good (at c.args.p c.args.memory.now) _ c.increment.ensures c.requires; instruction = rw c.load-i.ensures (c.requires.memory.words c.args.p.pc); last = c.requires.pc; op = op_left _ c.in_default.in_default-own.rest }

pub returns-in-12 : goal.returns-in-12
returns-in-12 c = let s = at c.args.p c.args.memory.now in
    c.input_output_or.ensures
    ∙ advance_six c.args.devices s _ _ c.load-i.ensures
    (op_6 s _ _ c.load-i.ensures c.increment.ensures (op_of _ 12 c.in-12.is))

pub returns-in-13 : goal.returns-in-13
returns-in-13 c = let s = at c.args.p c.args.memory.now in
    c.input_output_or-in-13.ensures
    ∙ advance_six c.args.devices s _ _ c.load-i.ensures
    (op_6 s _ _ c.load-i.ensures c.increment.ensures (op_of _ 13 c.in-13.is))

pub returns-in-14 : goal.returns-in-14
returns-in-14 c = let s = at c.args.p c.args.memory.now in
    let op = op_of _ 14 c.in-14.is in
    c.first_group.ensures
    ∙ op_7_first s _ _ c.load-i.ensures c.increment.ensures op (bit_3_of _ 14 c.in-14.is)
    ∙ advance_rest c.args.devices s _ c.load-i.ensures (λ six. omega (arith, six, op))

pub returns-in-15 : goal.returns-in-15
returns-in-15 c = let s = at c.args.p c.args.memory.now in
    let op = op_of _ 15 c.in-15.is in
    c.other_groups.ensures
    ∙ op_7 s _ _ c.load-i.ensures c.increment.ensures op
    ∙ advance_rest c.args.devices s _ c.load-i.ensures (λ six. omega (arith, six, op))

pub returns-in_default : goal.returns-in_default
returns-in_default c = let s = at c.args.p c.args.memory.now in
    let low = op_left _ c.in_default.in_default-own.rest in
    c.refer.ensures
    ∙ ops_0_to_5 s _ _ c.load-i.ensures c.increment.ensures low
    ∙ advance_rest c.args.devices s _ c.load-i.ensures (λ six. omega (arith, six, low))
