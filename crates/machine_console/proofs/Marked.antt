-- The marked runs, proved together: the definition of a run takes each session before to what is left, after so many steps and for that reason.
-- Assumes nothing.
use mathlib.Core.Path.{◌≡◌, refl}
use mathlib.Core.List.{map}
use Rattle.state.specs.Refusals.{reason_with}
use Rattle.runs.specs.Run.{Ended, run_from}
use Rattle.devices.specs.Devices.{arrived, unread_after, risen, begun, printed_after}
use Rattle.devices.specs.Session.{Session, place_left}
use Rattle.devices.specs.Session as session
use Rattle.machine_state.specs.Interrupt.{interrupt_test, input_output}
use Rattle.machine_operate.specs.Operate.{changed, rotated, skips, group1, group2, group3, clears_run, operate}
use Rattle.machine_reference.specs.Address.{first_address, indexed, effective, after_indexing}
use Rattle.machine_reference.specs.Reference.{operation, reference}
use Rattle.machine_run.specs.Step.{execute, halts, makes_test, step_with}
use Rattle.machine_console.specs.Instructions.{lac_after, devices_after, state_after}
use Rattle.machine_console.specs.Console.{Console, line_test, device_step, console_step, run}
use Rattle.machine_console.specs.Marked.{MarkedRun, Left, marked_runs, ready, echo}

abbrev told : MarkedRun → Ended (Session Console) → Left
told m r = record { session = r.left; steps = r.steps; reason = reason_with r.left.engine.state.run (place_left m.room r.left) }

pub marked_runs_lem : map (λ (m : MarkedRun). told m (run m.room m.budget m.before)) marked_runs ≡ map (λ (m : MarkedRun). m.after) marked_runs
unfolding run_from session.turn console_step device_step state_after lac_after devices_after line_test interrupt_test begun arrived risen unread_after printed_after step_with makes_test halts execute input_output operate group1 group2 group3 clears_run changed rotated skips reference operation effective after_indexing first_address indexed marked_runs ready echo
marked_runs_lem = refl
