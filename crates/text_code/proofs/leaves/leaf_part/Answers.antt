-- `text_code::leaves::leaf_part`: by its width.
use borrow.Author.Rules.{rules}
use Rattle.text_code.proofs.Parts.{leaf, wide_leaf}
use Rattle.text_code.proofs.leaves.leaf_part.Goals as goal

pub returns-then-width-le-WIDEST : goal.returns-then-width-le-WIDEST
returns-then-width-le-WIDEST c = rw (c.with_word.ensures, c.emit.ensures)
    (leaf c.args.c c.args.code.now c.args.place c.args.width c.args.word (search rules) c.if-width-le-WIDEST.true)

pub returns-else-width-le-WIDEST : goal.returns-else-width-le-WIDEST
returns-else-width-le-WIDEST c = wide_leaf c.args.c c.args.code.now c.args.place c.args.width c.args.word c.args.code.now c.if-width-le-WIDEST.false
