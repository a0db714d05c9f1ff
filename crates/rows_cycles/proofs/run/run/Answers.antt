-- `rows_cycles::run::run`: cycle by cycle.
use mathlib.Core.Path.{refl}
use native.Mathlib.Omega.{arith}
use Rattle.rows_cycles.proofs.Courses.{going_start, room_here, going_next, going_spent, going_ended}
use Rattle.rows_cycles.proofs.run.run.Goals as goal
use Rattle.rows_cycles.proofs.run.run.Goals.{else-loop-done-test, then-loop-done-test+then-value_at-has_room}

pub loop-done-init : goal.loop-done-init
loop-done-init c = going_start _ _ _ _ _ _ _ _ _ _ _ c.requires.whole_memory c.requires.whole_list

pub begin_cycle-b-requires : goal.begin_cycle-b-requires
begin_cycle-b-requires c = c.loop-done.invariant.arrived

pub cycle-t-requires : goal.cycle-t-requires
cycle-t-requires c = record { whole_memory = c.loop-done.invariant.size; whole_list = c.loop-done.invariant.long }

pub end_cycle-printed-requires : goal.end_cycle-printed-requires
end_cycle-printed-requires c = room_here _ _ _ _ _ _ _ _ _ _ _ _ _ _ _ _ _ c.loop-done.invariant c.value_at.result c.has_room.result
    c.value_at.ensures c.has_room.ensures c.if-value_at-has_room.false

pub overflow_add-done : goal.overflow_add-done
overflow_add-done c = omega (arith, c.loop-done-test.true, c.ranges)

pub loop-done-smaller : goal.loop-done-smaller
loop-done-smaller c = omega (arith, c.loop-done-test.true)

pub loop-done-preserved : goal.loop-done-preserved
loop-done-preserved c = going_next _ _ _ _ _ _ _ _ _ _ _ _ _ _ _ _ _ c.loop-done.invariant c.value_at.result c.has_room.result
    c.value_at.ensures c.has_room.ensures _ _ _ _ _ _ _ _ c.loop-done-test.true c.if-value_at-has_room.false
    c.begin_cycle-b.ensures c.cycle-t.ensures c.end_cycle-printed.ensures

pub returns : goal.returns
returns c = elim c.loop-done-test.branch [
  | else-loop-done-test w ↦
      going_spent _ _ _ _ _ _ _ _ _ _ _ _ _ _ _ _ _ c.loop-done.invariant c.value_at-2.result c.has_room-room.result _ c.value_at-2.ensures c.has_room-room.ensures c.reason_with.ensures
      refl refl refl refl refl w.loop-done-test.false
  | then-loop-done-test+then-value_at-has_room w ↦
      going_ended _ _ _ _ _ _ _ _ _ _ _ _ _ _ _ _ _ c.loop-done.invariant c.value_at-2.result c.has_room-room.result _ c.value_at-2.ensures c.has_room-room.ensures c.reason_with.ensures
      refl refl refl refl refl w.value_at.result w.has_room.result w.value_at.ensures w.has_room.ensures w.if-value_at-has_room.true
]
