-- `desk_last_step::on_page::put_changes`: the words passed have been written.
use Rattle.std.proofs.Common.{rules, arith, refl, ◌<◌, ◌≤◌, length}
use Rattle.page.proofs.Writing.{written_none, written_then}
use Rattle.desk_last_step.specs.LastStep.{change_lines}
use Rattle.desk_last_step.proofs.Changes.{changes_more, changes_room, changes_all}
use Rattle.desk_last_step.proofs.on_page.put_changes.Goals as goal

pub loop-address-init : goal.loop-address-init
unfolding change_lines
loop-address-init c = (refl, written_none _ _)

pub put_change-end-requires : goal.put_change-end-requires
put_change-end-requires c =
    let second : c.loop-address.address < length c.args.after.now = omega (arith, c.requires.whole, c.loop-address-test.true) in
    let room = changes_room c.args.before.now c.args.after.now c.loop-address.address c.loop-address-test.true second in
    omega (arith, room, c.loop-address.invariant.0, c.loop-address.invariant.1.place, c.requires.room)

pub loop-address-preserved : goal.loop-address-preserved
loop-address-preserved c =
    let second : c.loop-address.address < length c.args.after.now = omega (arith, c.requires.whole, c.loop-address-test.true) in (
      search rules,
      rw (changes_more c.args.before.now c.args.after.now c.loop-address.address c.loop-address-test.true second)
          (written_then _ _ c.loop-address.invariant.1 c.put_change-end.ensures),
    )

pub shape_of-page : goal.shape_of-page
shape_of-page c = c.loop-address.invariant.0

pub returns : goal.returns
returns c =
    let second : length c.args.after.now ≤ c.loop-address.address = omega (arith, c.requires.whole, c.loop-address-test.false) in
    rw (← changes_all c.args.before.now c.args.after.now c.loop-address.address c.loop-address-test.false second) c.loop-address.invariant.1
