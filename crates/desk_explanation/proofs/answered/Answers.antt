-- `desk_explanation::answered`: the emulator's answer tells whether there was a run.
use mathlib.Core.Path.{refl, ap, ◌∙◌}
use mathlib.Core.List.{List}
use Prim.Native.Nat.{ℕ}
use native.Mathlib.Omega.{arith}
use lib.Dec.{lit≤}
use lib.ListN.{replicate}
use Rattle.state.specs.Limits.{row_places}
use Rattle.shipped.specs.Claim.{evaluation}
use Rattle.evaluator.specs.Evaluate.{DeviceReport}
use Rattle.desk_run_lines.specs.Registers.{variant_of}
use Rattle.desk_explanation.specs.Explanation.{paper}
use Rattle.desk_explanation.proofs.Answers.{refused_by, ran_by}
use Rattle.desk_explanation.proofs.answered.Goals as goal

pub put_answer-requires : goal.put_answer-requires
put_answer-requires c = let rows = ap (λ (r : DeviceReport). r.report) c.evaluate_variant-evaluated.ensures
    ∙ ap (λ (l : List ℕ). (evaluation (variant_of c.args.devices) l c.args.memory.now c.args.budget (replicate row_places 0) c.args.input.now paper).report) c.places_of.ensures in
    let told = ran_by c.args.devices c.args.m c.args.c c.args.memory.now c.args.budget c.args.input.now (replicate row_places 0) (lit≤ tt) c.emulate_variant-emulated.result _ _ c.emulate_variant-emulated.ensures
    (record { each = λ k. omega (arith, c.shared_slice_known-1.given k) }) _ c.evaluate_variant-evaluated.result.answer.outcome c.evaluate_variant-evaluated.result.answer.registers.values _ _ c.run_to_last-earlier.result _ c.in-Ok.is rows c.run_to_last-earlier.ensures in
    record { last_step = rw c.pc_in-pc.ensures told.last; printed_within = told.printed; listed_within = omega (arith, c.listed_in-n.ensures, told.few) }

pub returns-in-Err : goal.returns-in-Err
returns-in-Err c = let nothing = refused_by c.args.devices c.args.m c.args.c c.args.memory.now c.args.budget c.args.input.now (replicate row_places 0) (lit≤ tt) c.emulate_variant-emulated.result _ _
    c.emulate_variant-emulated.ensures _ c.in-Err.is in
    rw nothing (record { page = refl; whole = refl; within = omega arith })

pub returns-in-Ok : goal.returns-in-Ok
returns-in-Ok c = let rows = ap (λ (r : DeviceReport). r.report) c.evaluate_variant-evaluated.ensures
    ∙ ap (λ (l : List ℕ). (evaluation (variant_of c.args.devices) l c.args.memory.now c.args.budget (replicate row_places 0) c.args.input.now paper).report) c.places_of.ensures in
    let told = ran_by c.args.devices c.args.m c.args.c c.args.memory.now c.args.budget c.args.input.now (replicate row_places 0) (lit≤ tt) c.emulate_variant-emulated.result _ _ c.emulate_variant-emulated.ensures
    (record { each = λ k. omega (arith, c.shared_slice_known-1.given k) }) _ c.evaluate_variant-evaluated.result.answer.outcome c.evaluate_variant-evaluated.result.answer.registers.values _ _ c.run_to_last-earlier.result _ c.in-Ok.is rows c.run_to_last-earlier.ensures in
    rw told.is (rw c.listed_in-n.ensures at (rw c.pc_in-pc.ensures at c.put_answer.ensures))
