-- `desk_teletype::go_on`: what the emulator answers is the turn that the definition has, a run or a refusal.
use borrow.Author.Rules.{rules}
use mathlib.Core.List.{List}
use mathlib.Core.Path.{◌≡◌, ap, ◌∙◌}
use Prim.Native.Nat.{ℕ}
use Rattle.emulator.specs.Emulate.{DeviceReport, emulate_devices}
use Rattle.desk_teletype.specs.declared.Sitting.{Sitting}
use Rattle.desk_teletype.specs.Sitting.{portion, outcome}
use Rattle.desk_teletype.proofs.Turns.{steps_left, turned_ran, turned_refused}
use Rattle.desk_teletype.proofs.go_on.Goals as goal

-- the emulator's answer to a turn
same : (s : Sitting) (memory input output : List ℕ) {n : ℕ} {r : DeviceReport} → r ≡ emulate_devices s.machine s.devices memory n input output → n ≡ portion s.left
    → r ≡ outcome s memory input output
unfolding outcome
same s memory input output e p = e ∙ ap (λ (n : ℕ). emulate_devices s.machine s.devices memory n input output) p

pub overflow_sub-left : goal.overflow_sub-left
overflow_sub-left c = steps_left _ _ _ _ _ _ _ (same c.args.s c.args.memory.now c.args.input.now c.args.output.now c.emulate_devices-end.ensures c.portion.ensures) (search rules) _ c.in-Ok.is

pub returns-in-Ok : goal.returns-in-Ok
returns-in-Ok c = turned_ran _ _ _ _ _ _ _ (same c.args.s c.args.memory.now c.args.input.now c.args.output.now c.emulate_devices-end.ensures c.portion.ensures) (search rules) _ c.in-Ok.is

pub returns-in-Err : goal.returns-in-Err
returns-in-Err c = turned_refused _ _ _ _ _ _ _ (same c.args.s c.args.memory.now c.args.input.now c.args.output.now c.emulate_devices-end.ensures c.portion.ensures) (search rules) _ c.in-Err.is
