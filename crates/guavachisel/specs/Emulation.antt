-- What `guavachisel_emulate` yields to a C caller: machine and outcome, as the numbers of the emulator's report.
-- Assumes nothing.
use Rattle.std.specs.Prelude.{◌≡◌, List, ℕ}
use Rattle.machine_state.specs.Registers.{values, machine_of}
use Rattle.emulator.specs.Emulate.{Report, emulate}
use Rattle.guavachisel.specs.declared.outcome.Outcome.{Outcome}
use Rattle.guavachisel.specs.Outcome.{places}

-- what it speaks of: refusal and place, steps and reason
abbrev pub outcome_of : Report → Outcome
outcome_of r =
    record {
      refusal = r.number;
      place = r.place;
      steps = r.steps;
      reason = r.reason;
      rows = 0;
      read = 0;
      printed = 0;
      answer = 0;
      sum = 0;
    }

-- everything after the call: memory, machine ("guavachisel_machine", the registers in their order) and outcome
pub record Emulated (mem regs : List ℕ) (budget : ℕ) (mem' regs' out' : List ℕ) : Type 0 where
  pub memory : mem' ≡ (emulate (machine_of regs) mem budget).memory
  pub machine : regs' ≡ values (emulate (machine_of regs) mem budget).machine
  pub outcome : out' ≡ places (outcome_of (emulate (machine_of regs) mem budget))
