-- `devices::session::print`: one byte, where a mark stands.
use mathlib.Core.Path.{refl}
use Rattle.devices.proofs.Held.{prints, prints_not}
use Rattle.devices.proofs.session.print.Goals as goal

pub returns-then-c-ne0 : goal.returns-then-c-ne0
returns-then-c-ne0 c = prints c.args.c _ _ _ c.if-c-ne0.true refl

pub returns : goal.returns
returns c = prints_not c.args.c _ _ c.if-c-ne0.false
