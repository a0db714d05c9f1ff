-- `desk_last_step::put_words`: the words passed have been written.
use Rattle.std.proofs.Common.{rules, arith, sym, append-nil, ◌<◌, length, length-append}
use Rattle.page.proofs.Writing.{drafted_more}
use Rattle.desk_last_step.specs.LastStep.{change_lines}
use Rattle.desk_last_step.proofs.Changes.{changes_more, changes_room}
use Rattle.desk_last_step.proofs.put_words.Goals as goal

pub loop-address-init : goal.loop-address-init
unfolding change_lines
loop-address-init g c = sym (append-nil _)

pub put_word-requires : goal.put_word-requires
put_word-requires g c =
    let second : c.loop-address.address < length c.args.after.now = omega (arith, c.requires.whole, c.loop-address-test.true) in
    let room = changes_room c.args.before.now c.args.after.now c.loop-address.address c.loop-address-test.true second in
    (search rules, simp (c.loop-address.invariant, length-append) (omega (arith, room, c.requires.room)))

pub loop-address-preserved : goal.loop-address-preserved
loop-address-preserved g c =
    let second : c.loop-address.address < length c.args.after.now = omega (arith, c.requires.whole, c.loop-address-test.true) in
    drafted_more _ _ _ (changes_more c.args.before.now c.args.after.now c.loop-address.address c.loop-address-test.true second)
    c.loop-address.invariant c.put_word.ensures
