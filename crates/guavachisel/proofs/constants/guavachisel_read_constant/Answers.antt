-- `guavachisel::constants::guavachisel_read_constant` hands over what is read.
use mathlib.Core.Path.{sym, subst}
use Rattle.text_constants.specs.Sizes.{Narrow}
use Rattle.text_constants.proofs.Widths.{constant_narrow}
use Rattle.guavachisel.proofs.constants.guavachisel_read_constant.Goals as goal

pub places-requires : goal.places-requires
places-requires c = subst Narrow (sym c.constant_at.ensures) (constant_narrow _ _)
