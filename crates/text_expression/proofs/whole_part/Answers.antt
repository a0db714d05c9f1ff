-- `text_expression::whole_part`: by its own test.
use Rattle.text_expression.proofs.WholeFields.{is_whole, is_part}
use Rattle.text_expression.proofs.whole_part.Goals as goal

pub returns-then-end-s : goal.returns-then-end-s
returns-then-end-s c = is_whole c.args.s.now c.args.part.end c.args.part.width c.args.pieces c.if-end-s.true

pub returns-else-end-s : goal.returns-else-end-s
returns-else-end-s c = is_part c.args.s.now c.args.part.end c.args.part.width c.args.pieces c.if-end-s.false
