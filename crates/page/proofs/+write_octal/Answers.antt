-- `page::write_octal`: the last digit, and those before it.
use Rattle.std.proofs.Common.{rules}
use Rattle.std.proofs.lemmas.List.{nil_from_length}
use Rattle.page.specs.Text.{octal}
use Rattle.page.proofs.Numbers.{octal_placed}
use Rattle.page.proofs.+write_octal.Goals as goal

pub returns-then-n-ne0 : goal.returns-then-n-ne0
returns-then-n-ne0 t c = octal_placed _ _ _ (search rules) c.digit.ensures c.write_octal.ensures

pub returns-else-n-ne0 : goal.returns-else-n-ne0
unfolding octal
returns-else-n-ne0 t c = rw (nil_from_length c.args.digits.now c.if-n-ne0.false) (search rules)
