-- `text_fields::part_before`: the run from the start ends before the byte.
use mathlib.Core.Path.{sym, ap, ◌∙◌}
use Prim.Native.Nat.{ℕ}
use lib.ListN.{take}
use lib.Seq.{length-take-le}
use Rattle.characters.specs.declared.Class.TheVariants.{Other}
use Rattle.characters.proofs.Runs.{from_start, before_end}
use borrow.Author.Rules.{rules}
use Rattle.text_fields.proofs.part_before.Goals as goal

pub slice_bounds-result-end : goal.slice_bounds-result-end
slice_bounds-result-end c = sym (length-take-le c.run_end-end.result c.args.s.now (before_end (Other c.args.b) c.args.s.now 0 c.run_end-end.result c.run_end-end.ensures (search rules)))

pub returns : goal.returns
returns c = ap (λ (k : ℕ). take k c.args.s.now) (c.run_end-end.ensures ∙ from_start (Other c.args.b) c.args.s.now)
