-- `text_constants::counted`: the digits, or none.
use mathlib.Core.Path.{sym, ap}
use mathlib.Core.Bool.{Bool}
use native.Mathlib.Omega.{arith}
use borrow.Author.Tests.{le-leb, lt-leb}
use Rattle.word.specs.Choice.{pick}
use Rattle.text_constants.proofs.counted.Goals as goal

pub returns-then-n-most : goal.returns-then-n-most
returns-then-n-most c = sym (ap (λ (b : Bool). pick b c.args.n 0) (le-leb c.args.n c.args.most (omega (arith, c.if-n-most.true))))

pub returns-else-n-most : goal.returns-else-n-most
returns-else-n-most c = sym (ap (λ (b : Bool). pick b c.args.n 0) (lt-leb c.args.n c.args.most (omega (arith, c.if-n-most.false))))
