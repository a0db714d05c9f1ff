-- The marked steps, proved together: the definition of a step takes each state before to the state after.
-- Assumes nothing.
use mathlib.Core.Path.{◌≡◌, refl}
use mathlib.Core.List.{map}
use Rattle.machine_run.specs.Step.{execute, halts, makes_test, step_with, step}
use Rattle.machine_reference.specs.Address.{first_address, indexed, effective, after_indexing}
use Rattle.machine_reference.specs.Reference.{operation, reference}
use Rattle.machine_operate.specs.Operate.{changed, rotated, skips, group1, group2, group3, clears_run, operate}
use Rattle.machine_state.specs.Interrupt.{interrupt_test, input_output}
use Rattle.machine_run.specs.Marked.{Mark, marked, ready, image_l, requested, pending}

pub marked_steps : map (λ (m : Mark). step m.before) marked ≡ map (λ (m : Mark). m.after) marked
unfolding step_with makes_test halts execute input_output interrupt_test operate group1 group2 group3 clears_run changed rotated skips reference operation effective after_indexing first_address indexed marked pending image_l requested ready
marked_steps = refl
