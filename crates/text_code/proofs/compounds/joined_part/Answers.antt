-- `text_code::compounds::joined_part`: an operator puts one word behind its sides.
use Rattle.text_code.proofs.Making.{joins, joins_not}
use Rattle.text_code.proofs.compounds.joined_part.Goals as goal

pub returns-then-both-gt-WIDEST : goal.returns-then-both-gt-WIDEST
returns-then-both-gt-WIDEST c = joins_not c.args.row c.args.left.end c.args.left.width c.args.right.end c.args.right.width c.args.code.now c.args.code.now c.requires.listed
    (rw c.width_in-both.ensures at c.if-both-gt-WIDEST.true)

pub returns : goal.returns
returns c = rw (c.with_word.ensures, c.emit.ensures, c.width_in-both.ensures)
    (joins c.args.row c.args.left.end c.args.left.width c.args.right.end c.args.right.width c.args.code.now c.requires.listed (rw c.width_in-both.ensures at c.if-both-gt-WIDEST.false))
