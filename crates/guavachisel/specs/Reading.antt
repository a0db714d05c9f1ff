-- What `guavachisel_read` yields to a C caller: "The answer is the number and line."
-- Assumes nothing.
use Rattle.text_declaration.specs.Faults.{number_of}
use Rattle.text_description.specs.Description.{Acceptance, accepted, turned_down}
use Rattle.guavachisel.specs.declared.outcome.Outcome.{Outcome}
use Rattle.guavachisel.specs.Outcome.{silent, refused}

-- what it speaks of: refusal and place, 0 and 0 if the text is accepted
abbrev pub outcome_of : Acceptance → Outcome
outcome_of (accepted d) = silent
outcome_of (turned_down f n) = refused (number_of f) n
