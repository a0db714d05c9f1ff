-- `desk_teletype::portion`: what is left, up to a turn's steps.
use borrow.Author.Rules.{rules}
use borrow.Author.Tests.{lt-ltb, le-ltb}
use Rattle.desk_teletype.specs.Sitting.{portion}
use Rattle.desk_teletype.proofs.portion.Goals as goal

pub returns-then-left-lt-TURN_STEPS : goal.returns-then-left-lt-TURN_STEPS
unfolding portion
returns-then-left-lt-TURN_STEPS c = search (rules, lt-ltb)

pub returns-else-left-lt-TURN_STEPS : goal.returns-else-left-lt-TURN_STEPS
unfolding portion
returns-else-left-lt-TURN_STEPS c = search (rules, le-ltb)
