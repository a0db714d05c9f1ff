-- `page::write_octal`: one place fewer each time.
use Rattle.std.proofs.Common.{length}
use Rattle.page.proofs.+write_octal.Given as goal

abbrev pub decreases-write_octal : goal.decreases-write_octal
decreases-write_octal l = length l.digits.now
