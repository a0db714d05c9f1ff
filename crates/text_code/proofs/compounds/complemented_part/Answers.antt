-- `text_code::compounds::complemented_part`: Not puts one word behind its operand.
use Rattle.text_code.proofs.Making.{under_not}
use Rattle.text_code.proofs.compounds.complemented_part.Goals as goal

pub returns : goal.returns
returns c = rw (c.with_word.ensures, c.emit.ensures, c.width_in-whole.ensures) (under_not c.args.operand.end c.args.operand.width c.args.code.now)
