-- `page::write_decimal`: the number falls each time.
use Rattle.page.proofs.+write_decimal.Given as goal

abbrev pub decreases-write_decimal : goal.decreases-write_decimal
decreases-write_decimal l = l.x
