-- `desk_last_step::put_instruction`: address and word, the mnemonic, LF.
use Rattle.std.proofs.Common.{rules, arith, refl, append_assoc, length-append}
use Rattle.page.proofs.Numbers.{octal_length}
use Rattle.desk_mnemonics.proofs.Names.{mnemonic_size}
use Rattle.desk_last_step.specs.LastStep.{last_line}
use Rattle.desk_last_step.proofs.put_instruction.Goals as goal

pub put_mnemonic-requires : goal.put_mnemonic-requires
put_mnemonic-requires g c =
    (search rules, simp (c.put_place.ensures, length-append) (omega (arith, octal_length 4 c.args.address, octal_length 4 c.args.word, c.requires)))

pub put_byte-requires : goal.put_byte-requires
put_byte-requires g c =
    let name = mnemonic_size c.args.devices c.args.word c.args.address in
    (search rules, simp (c.put_mnemonic.ensures, c.put_place.ensures, length-append) (omega (arith, octal_length 4 c.args.address, octal_length 4 c.args.word, name, c.requires)))

pub returns : goal.returns
unfolding last_line
returns g c = simp (c.put_byte.ensures, c.put_mnemonic.ensures, c.put_place.ensures, append_assoc) refl
