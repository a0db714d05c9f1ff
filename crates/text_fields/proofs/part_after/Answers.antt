-- `text_fields::part_after`: what stands past the byte, or nothing.
use mathlib.Core.Path.{ap, ◌∙◌}
use Prim.Native.Nat.{ℕ, ◌+◌}
use native.Mathlib.Omega.{arith}
use lib.ListN.{length, drop, length-drop}
use lib.Seq.{take_all}
use Rattle.characters.specs.declared.Class.TheVariants.{Other}
use Rattle.characters.proofs.Runs.{from_start, within}
use Rattle.text_fields.proofs.part_after.Goals as goal

pub overflow_add-end : goal.overflow_add-end
overflow_add-end c = omega (arith, c.run_end-end.ensures, within (Other c.args.b) c.args.s.now 0 (omega arith))

pub returns : goal.returns
returns c = c.part.ensures
    ∙ take_all (length c.args.s.now) (drop (c.run_end-end.result + 1) c.args.s.now) (omega (arith, length-drop (c.run_end-end.result + 1) c.args.s.now))
    ∙ ap (λ (k : ℕ). drop (k + 1) c.args.s.now) (c.run_end-end.ensures ∙ from_start (Other c.args.b) c.args.s.now)
