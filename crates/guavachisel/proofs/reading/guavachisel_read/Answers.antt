-- `guavachisel::reading::guavachisel_read` hands over each case of the reader's answer.
use mathlib.Core.Path.{sym, ap, ◌∙◌}
use Rattle.text_description.specs.Description.{Acceptance}
use Rattle.text_description.proofs.Texts.{leaves_is, leaves_turned_down}
use Rattle.guavachisel.specs.Outcome.{places}
use Rattle.guavachisel.specs.Reading.{outcome_of}
use Rattle.guavachisel.proofs.reading.guavachisel_read.Goals as goal

pub returns-in-Ok : goal.returns-in-Ok
returns-in-Ok c = (rw c.answered.ensures at c.into.ensures)
    ∙ sym (ap (λ (a : Acceptance). places (outcome_of a)) (leaves_is _ _ _ (rw c.in-Ok.is at c.read.ensures)))

pub returns-in-Err : goal.returns-in-Err
returns-in-Err c = (rw c.unread.ensures at c.into-in-Err.ensures)
    ∙ sym (ap (λ (a : Acceptance). places (outcome_of a)) (leaves_turned_down _ _ _ (rw c.in-Err.is at c.read.ensures)))
