-- The cycle of calls of the grammar. Each member's measure is the number of calls that what is unread can lead to (`calls`); the same number is enough for the definition, so
-- each contract is met one call of the definition at a time (`Calls.antt`). A call that reads no byte falls by its last number: from more 9 to an operation 8, from an enclosed
-- part 9 to a level (8 for the weakest, 2 for the strongest), an operand 1 and a worded one 0, from a negated one 3 to the strongest level. A byte that was read is worth ten.
use Rattle.std.proofs.Common.{◌-◌}
use Rattle.text_grammar.specs.Met.{calls}
use Rattle.text_grammar.proofs.+grammar.Given as goal

abbrev pub decreases-read_enclosed : goal.decreases-read_enclosed
decreases-read_enclosed l = calls l.field.now.bytes.now l.c.place 9

abbrev pub decreases-read_level : goal.decreases-read_level
decreases-read_level l = calls l.field.now.bytes.now l.c.place (9 - l.strength)

abbrev pub decreases-read_more : goal.decreases-read_more
decreases-read_more l = calls l.field.now.bytes.now l.left.end.place 9

abbrev pub decreases-read_negated : goal.decreases-read_negated
decreases-read_negated l = calls l.field.now.bytes.now l.c.place 3

abbrev pub decreases-read_operand : goal.decreases-read_operand
decreases-read_operand l = calls l.field.now.bytes.now l.c.place 1

abbrev pub decreases-read_operation : goal.decreases-read_operation
decreases-read_operation l = calls l.field.now.bytes.now l.left.end.place 8

abbrev pub decreases-read_worded : goal.decreases-read_worded
decreases-read_worded l = calls l.field.now.bytes.now l.c.place 0
