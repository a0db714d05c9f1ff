-- What `guavachisel_evaluate` yields to a C caller: registers, memory, row list and outcome, as the numbers of the evaluator's report.
-- Assumes nothing.
use Rattle.std.specs.Prelude.{◌≡◌, List, ℕ}
use Rattle.evaluator.specs.Evaluate.{Report, evaluate}
use Rattle.guavachisel.specs.declared.outcome.Outcome.{Outcome}
use Rattle.guavachisel.specs.Outcome.{places}

-- what it speaks of: refusal and place, steps and reason, and the rows listed
abbrev pub outcome_of : Report → Outcome
outcome_of r =
    record {
      refusal = r.number;
      place = r.place;
      steps = r.steps;
      reason = r.reason;
      rows = r.listed;
      read = 0;
      printed = 0;
      answer = 0;
      sum = 0;
    }

-- everything after the call: registers, memory, row list and outcome
pub record Evaluated (text regs mem : List ℕ) (budget : ℕ) (list regs' mem' list' out' : List ℕ) : Type 0 where
  pub registers : regs' ≡ (evaluate text regs mem budget list).registers
  pub memory : mem' ≡ (evaluate text regs mem budget list).memory
  pub rows : list' ≡ (evaluate text regs mem budget list).list
  pub outcome : out' ≡ places (outcome_of (evaluate text regs mem budget list))
