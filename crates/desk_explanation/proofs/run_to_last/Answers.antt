-- `desk_explanation::run_to_last`: the budget is one step fewer.
use mathlib.Core.Path.{ap, ◌∙◌}
use Prim.Native.Nat.{ℕ}
use Rattle.emulator.specs.Emulate.{DeviceReport}
use Rattle.shipped.specs.Claim.{emulation}
use Rattle.desk_run_lines.specs.Registers.{variant_of}
use Rattle.desk_explanation.specs.Explanation.{paper}
use Rattle.desk_explanation.proofs.run_to_last.Goals as goal

pub returns : goal.returns
returns c = ap (λ (r : DeviceReport). r.report) c.emulate_variant-r.ensures
    ∙ ap (λ (n : ℕ). (emulation (variant_of c.args.devices) c.args.m c.args.c c.args.memory.now n c.args.input.now paper).report) c.saturating_sub.ensures
