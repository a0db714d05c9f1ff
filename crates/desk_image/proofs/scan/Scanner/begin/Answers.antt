-- `desk_image::scan::Scanner::begin`: 4,096 zeros, and line 1.
use Rattle.std.proofs.Common.{refl}
use Rattle.desk_image.specs.Input.{clear}
use Rattle.desk_image.proofs.scan.Scanner.begin.Goals as goal

pub returns : goal.returns
unfolding clear
returns g c = refl
