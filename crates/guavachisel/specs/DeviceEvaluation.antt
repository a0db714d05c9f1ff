-- What `guavachisel_evaluate_devices` yields to a C caller: registers, memory, row list, output and outcome, as the numbers of the evaluator's report.
-- Assumes nothing.
use Rattle.std.specs.Prelude.{◌≡◌, List, ℕ}
use Rattle.evaluator.specs.Evaluate.{DeviceReport, evaluate_devices}
use Rattle.guavachisel.specs.declared.outcome.Outcome.{Outcome}
use Rattle.guavachisel.specs.Outcome.{places, exchanging}
use Rattle.guavachisel.specs.Evaluation as plain

-- what it speaks of: what the entry without devices does, and the bytes read and printed
abbrev pub outcome_of : DeviceReport → Outcome
outcome_of r = exchanging (plain.outcome_of r.report) r.exchange.read r.exchange.printed

-- everything after the call: registers, memory, row list, output and outcome
pub record EvaluatedDevices (text regs mem : List ℕ) (budget : ℕ) (list input paper regs' mem' list' paper' out' : List ℕ) : Type 0 where
  pub registers : regs' ≡ (evaluate_devices text regs mem budget list input paper).report.registers
  pub memory : mem' ≡ (evaluate_devices text regs mem budget list input paper).report.memory
  pub rows : list' ≡ (evaluate_devices text regs mem budget list input paper).report.list
  pub output : paper' ≡ (evaluate_devices text regs mem budget list input paper).exchange.output
  pub outcome : out' ≡ places (outcome_of (evaluate_devices text regs mem budget list input paper))
