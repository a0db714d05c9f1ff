-- `page::write_decimal`: the digits before the last, and the last.
use Rattle.std.proofs.Common.{rules, arith, ap, mod-eq_of_lt, [], length}
use Rattle.page.proofs.Numbers.{decimal_one, decimal_more, decimal_grows}
use Rattle.page.proofs.Writing.{page_none, page_byte}
use Rattle.page.proofs.+write_decimal.Goals as goal
use Rattle.page.proofs.+write_decimal.Goals.{then-x-lt10, else-x-lt10}

pub write_decimal-last-requires : goal.write_decimal-last-requires
write_decimal-last-requires t c = (search rules, omega (arith, decimal_grows c.args.x c.if-x-lt10.false))

pub bounds-digits-last : goal.bounds-digits-last
bounds-digits-last t c = elim c.if-x-lt10.branch [
  | then-x-lt10 w ↦ omega (arith, w.last-is, c.if-x-lt10.auto.digits, ap length (decimal_one c.args.x w.if-x-lt10.true), c.requires)
  | else-x-lt10 w ↦ omega (arith, w.last-is, c.if-x-lt10.auto.digits, w.write_decimal-last.ensures.whole, decimal_grows c.args.x w.if-x-lt10.false, c.requires)
]

pub returns : goal.returns
returns t c = elim c.if-x-lt10.branch [
  | then-x-lt10 w ↦
      let one = decimal_one c.args.x w.if-x-lt10.true in
      rw (w.digits-is, w.last-is, c.digit.ensures, mod-eq_of_lt w.if-x-lt10.true, one)
      (page_byte [] c.args.digits.now _ (page_none _) (omega (arith, ap length one, c.requires)))
  | else-x-lt10 w ↦
      let before = w.write_decimal-last in
      rw (w.digits-is, w.last-is, c.digit.ensures, decimal_more c.args.x w.if-x-lt10.false)
      (page_byte _ _ _ before.ensures (omega (arith, before.auto.digits, before.ensures.whole, decimal_grows c.args.x w.if-x-lt10.false, c.requires)))
]
