-- `desk_mnemonics::put_mnemonic`: the names, and the operand where the op has one.
use Rattle.std.proofs.Common.{rules, arith, refl, append_assoc, append-nil, length-append}
use borrow.Author.Tests.{lt-ltb, le-ltb}
use Rattle.desk_mnemonics.specs.Mnemonics.{mnemonic}
use Rattle.desk_mnemonics.proofs.Names.{names_size}
use Rattle.desk_mnemonics.proofs.put_mnemonic.Goals as goal

pub put_operand-requires : goal.put_operand-requires
put_operand-requires g c = (search rules, simp (c.put_names.ensures, length-append) (omega (arith, names_size c.args.devices c.args.i, c.requires)))

pub returns-then-i-lt6 : goal.returns-then-i-lt6
unfolding mnemonic
returns-then-i-lt6 g c = simp (lt-ltb _ _ c.if-i-lt6.true, c.put_operand.ensures, c.put_names.ensures, append_assoc) refl

pub returns-else-i-lt6 : goal.returns-else-i-lt6
unfolding mnemonic
returns-else-i-lt6 g c = simp (le-ltb _ _ c.if-i-lt6.false, append-nil, c.put_names.ensures) refl
