-- The papers' numbers and values for the answers that both engines give: state refusals and the reasons of a run's end.
-- Assumes nothing.
use Rattle.std.specs.Prelude.{ℕ, Bool, true, Ok, Err, ⊤}
use Rattle.std.specs.declared.result.Result.{Result}
use Rattle.word.specs.Choice.{on, pick}
use Rattle.state.specs.declared.Reason.{Reason}
use Rattle.state.specs.declared.Reason.TheVariants.{Halted, Spent, Paper}
use Rattle.state.specs.declared.Refusal.{Refusal}
use Rattle.state.specs.declared.Refusal.TheVariants.{MemoryLength, Word, Register, Budget, RowList}

-- "11 memory isn't 4,096 words; 12 a word above 4,095; 13 a register value wider than its register, ..; 14 budget above 1,000,000;
-- 15 (evaluator) row list shorter than 128 places"
abbrev pub number_of : Refusal → ℕ
number_of MemoryLength = 11
number_of (Word place) = 12
number_of (Register place) = 13
number_of Budget = 14
number_of RowList = 15

-- "the lowest offending place, from 0, or 0 if none applies"
abbrev pub place_of : Refusal → ℕ
place_of MemoryLength = 0
place_of (Word place) = place
place_of (Register place) = place
place_of Budget = 0
place_of RowList = 0

-- document 02, Two: "the reason is `halted` if RUN is 0, else `paper`, else `spent`", by RUN and by whether the output has a place left
abbrev pub reason_with : ℕ → Bool → Reason
reason_with run place = pick (on run) (pick place Spent Paper) Halted

-- without devices: "as its reason, `halted` if RUN is 0 at the end, else `spent`"
abbrev pub reason_of : ℕ → Reason
reason_of run = reason_with run true

-- the number of a reason in the C interface; 0 is kept for a refusal
abbrev pub reason_number : Reason → ℕ
reason_number Halted = 1
reason_number Spent = 2
reason_number Paper = 3

-- what a check finds: nothing, or the refusal
abbrev pub Verdict : Type 0
Verdict = Result ⊤ Refusal

-- "in this order": the first refusal counts
abbrev pub or_else : Verdict → Verdict → Verdict
or_else (Ok fit) later = later
or_else (Err why) later = Err why
