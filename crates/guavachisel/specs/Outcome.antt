-- What every entry of the C interface reports: one outcome of nine numbers. What an entry doesn't speak of is 0.
-- Assumes nothing.
use Rattle.std.specs.Prelude.{List, [], ◌∷◌, ℕ}
use Rattle.guavachisel.specs.declared.outcome.Outcome.{Outcome}

-- "guavachisel_outcome": its numbers, in the order of the struct
abbrev pub places : Outcome → List ℕ
places o = o.refusal ∷ o.place ∷ o.steps ∷ o.reason ∷ o.rows ∷ o.read ∷ o.printed ∷ o.answer ∷ o.sum ∷ []

-- nothing that is spoken of
abbrev pub silent : Outcome
silent =
    record { refusal = 0; place = 0; steps = 0; reason = 0; rows = 0; read = 0; printed = 0; answer = 0; sum = 0 }

-- after a run: the steps done, why it ended, and the rows listed
abbrev pub ran : ℕ → ℕ → ℕ → Outcome
ran steps reason rows =
    record { refusal = 0; place = 0; steps = steps; reason = reason; rows = rows; read = 0; printed = 0; answer = 0; sum = 0 }

-- after a refusal: its number, and its line or lowest offending place
abbrev pub refused : ℕ → ℕ → Outcome
refused number place =
    record { refusal = number; place = place; steps = 0; reason = 0; rows = 0; read = 0; printed = 0; answer = 0; sum = 0 }

-- after a question: its answer, which is 0 where it has none
abbrev pub answered : ℕ → Outcome
answered answer =
    record { refusal = 0; place = 0; steps = 0; reason = 0; rows = 0; read = 0; printed = 0; answer = answer; sum = 0 }

-- an outcome that speaks of the bytes read and the bytes printed, too
abbrev pub exchanging : Outcome → ℕ → ℕ → Outcome
exchanging o read printed =
    record {
      refusal = o.refusal;
      place = o.place;
      steps = o.steps;
      reason = o.reason;
      rows = o.rows;
      read = read;
      printed = printed;
      answer = o.answer;
      sum = o.sum;
    }
