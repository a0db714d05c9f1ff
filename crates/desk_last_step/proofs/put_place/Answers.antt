-- `desk_last_step::put_place`: the first word, and the two numbers.
use Rattle.std.proofs.Common.{rules, arith, length-append}
use Rattle.page.proofs.Numbers.{octal_length}
use Rattle.desk_last_step.proofs.put_place.Goals as goal

pub put_field-requires-2 : goal.put_field-requires-2
put_field-requires-2 g c =
    (search rules, simp (c.put_field.ensures, c.put_text.ensures, length-append) (omega (arith, octal_length 4 c.args.address, c.requires)))
