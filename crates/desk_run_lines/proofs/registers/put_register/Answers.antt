-- `desk_run_lines::registers::put_register`: name, TAB and digits, LF.
use Rattle.std.proofs.Common.{rules, arith, length-append}
use Rattle.page.proofs.Numbers.{octal_length}
use Rattle.desk_run_lines.proofs.registers.put_register.Goals as goal

pub put_byte-requires : goal.put_byte-requires
put_byte-requires c =
    (search rules, simp (c.put_field.ensures, c.put_text.ensures, length-append) (omega (arith, octal_length c.args.n c.args.value, c.requires)))
