-- `emulator::emulate`: the checks' verdict is the case that the definition goes by.
use Rattle.std.proofs.lemmas.Result.{err_from_is_err_and}
use mathlib.Core.Path.{sym, ◌∙◌}
use Rattle.emulator.specs.Emulate.{emulate}
use Rattle.emulator.proofs.Starts.{checked_good}
use Rattle.emulator.proofs.emulate.Goals as goal

pub returns-in_err-checked : goal.returns-in_err-checked
unfolding emulate
returns-in_err-checked c = let p = err_from_is_err_and c.from_residual.result c.from_residual.ensures.1 in
    rw (sym c.checked.ensures ∙ c.in_err-checked.was, emulate, p.1, p.2)

pub finished-requires : goal.finished-requires
finished-requires c = checked_good _ _ c.args.budget (sym c.checked.ensures ∙ c.in_ok-checked.was)

pub returns : goal.returns
unfolding emulate
returns c = rw (sym c.checked.ensures ∙ c.in_ok-checked.was, emulate) c.finished.ensures
