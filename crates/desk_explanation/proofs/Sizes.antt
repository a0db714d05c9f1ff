-- How many bytes the parts of an explanation have.
-- Assumes nothing.
use mathlib.Core.Bool.{Bool, true, false}
use mathlib.Core.List.{List, [], ◌++◌}
use Prim.Native.Nat.{ℕ, ◌+◌, ◌^◌, ◌≤◌, ◌<◌}
use native.Mathlib.Omega.{arith}
use mathlib.Core.Path.{◌≡◌}
use lib.ListN.{length, get_or, take, length-append, length-take}
use Rattle.word.specs.Choice.{on, pick}
use Rattle.state.specs.declared.Reason.{Reason}
use Rattle.state.specs.Refusals.{reason_with}
use Rattle.text_limits.specs.Limits.{most_registers}
use Rattle.shipped_rows.specs.Variant.{registers_of, values_of}
use Rattle.desk_run_lines.specs.Registers.{register_lines, variant_of, working_registers, working_values}
use Rattle.desk_run_lines.specs.Sizes.{register_lines_bytes, working_lines_bytes}
use Rattle.desk_run_lines.proofs.RegisterLines.{registers_size, working_size}
use Rattle.desk_explanation.specs.declared.Ending.{Ending}
use Rattle.page.proofs.Numbers.{decimal_length}
use Rattle.page.proofs.Writing.{drafted_size}
use Rattle.desk_last_lines.specs.LastLines.{end_line}
use Rattle.desk_last_lines.proofs.Sizes.{end_size}
use Rattle.desk_exchange.proofs.Printed.{exchange_size}
use Rattle.desk_explanation.specs.Explanation.{paper_places, has_place, exchange_of}
use Rattle.desk_last_step.specs.LastStep.{last_line, change_lines, last_step}
use Rattle.desk_last_step.specs.Sizes.{change_lines_bytes}
use Rattle.desk_last_step.proofs.Changes.{last_size}

-- the last line of a run has at most 32: its steps have 64 bits
pub end_within : (steps : ℕ) (why : Reason) → steps < 10 ^ 20 → length (end_line steps why) ≤ 32
end_within steps why h =
    let digits = decimal_length 19 steps h in
    let size = end_size steps why in
    omega arith

pub step_within : (d : Bool) (steps pc : ℕ) (before after : List ℕ) → length (change_lines 0 before after) ≤ change_lines_bytes → length (last_step d steps pc before after) ≤ 230
unfolding last_step
step_within d steps pc before after h = go (on steps)
  where
    go : (t : Bool) → length (pick t (last_line d pc (get_or before pc 0) ++ change_lines 0 before after) []) ≤ 230
    go true =
        let line = last_size d pc (get_or before pc 0) in
        let both = length-append (last_line d pc (get_or before pc 0)) (change_lines 0 before after) in
        omega arith
    go false = omega arith

-- what was read and printed has at most 291: 64 bytes
pub exchange_within : (d : Bool) (read : ℕ) (bytes : List ℕ) → read < 10 ^ 20 → length bytes ≤ paper_places → length (exchange_of d read bytes) ≤ 291
exchange_within true read bytes h few = omega (arith, exchange_size read bytes h, few)
exchange_within false read bytes h few = omega arith

-- a draft with one part more
pub grown : (before text : List ℕ) {after : List ℕ} {n m : ℕ} → length text ≤ m → length before ≤ n → after ≡ before ++ text → length after ≤ n + m
grown before text h k w = omega (arith, drafted_size before text w, h, k)

-- the parts of what is told of a run before its rows, and the bytes that it printed
pub record Parts (d : Bool) (e : Ending) (output : List ℕ) (pc : ℕ) (before memory places : List ℕ) : Type 0 where
  pub line : length (end_line e.steps (reason_with e.machine.run (has_place d e.printed))) ≤ 32
  pub printed : length (take e.printed output) ≤ paper_places
  pub exchange : length (exchange_of d e.read (take e.printed output)) ≤ 291
  pub step : length (last_step d e.steps pc before memory) ≤ 230
  pub registers : length (register_lines (registers_of (variant_of d)) (values_of (variant_of d) e.machine e.devices)) ≤ register_lines_bytes
  pub working : length (register_lines (working_registers (variant_of d)) (working_values (variant_of d) places)) ≤ working_lines_bytes

pub parts_size : (d : Bool) (e : Ending) (output : List ℕ) (pc : ℕ) (before memory places : List ℕ)
    → e.steps < 10 ^ 20 → e.read < 10 ^ 20 → e.printed ≤ paper_places → length (change_lines 0 before memory) ≤ change_lines_bytes → length places ≡ most_registers
    → Parts d e output pc before memory places
parts_size d e output pc before memory places steps read few changes all =
    let bytes : length (take e.printed output) ≤ paper_places = omega (arith, length-take e.printed output, few) in
    record {
      line = end_within e.steps (reason_with e.machine.run (has_place d e.printed)) steps;
      printed = bytes;
      exchange = exchange_within d e.read (take e.printed output) read bytes;
      step = step_within d e.steps pc before memory changes;
      registers = registers_size (variant_of d) e.machine e.devices;
      working = omega (arith, working_size (variant_of d) places all);
    }
