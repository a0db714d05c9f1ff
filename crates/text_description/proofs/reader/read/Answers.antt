-- `text_description::reader::read`: what an accepted text leaves, and the tables emptied after a refusal.
use mathlib.Core.Path.{refl, sym, ◌∙◌}
use Rattle.text_description.proofs.Texts.{leaves_refused}
use Rattle.text_description.proofs.reader.read.Goals as goal

pub returns-then-is_err : goal.returns-then-is_err
returns-then-is_err c = leaves_refused _ _ _ _ _ _ _ _ _ (sym c.is_err.ensures.value ∙ c.if-is_err.true) c.read_text-answer.ensures refl refl
