-- `desk_image::is_digits`: the run of digits is the whole field.
use Rattle.std.proofs.Common.{◌∙◌}
use Rattle.desk_image.proofs.Digits.{run_from_0}
use Rattle.desk_image.proofs.is_digits.Goals as goal

pub returns : goal.returns
returns c = rw (c.run_end.ensures ∙ run_from_0 _ _)
