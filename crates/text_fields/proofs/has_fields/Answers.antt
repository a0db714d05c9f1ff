-- `text_fields::has_fields`: field by field.
use mathlib.Core.Path.{◌≡◌, sym, ap, ◌∙◌}
use mathlib.Core.Bool.{◌&&◌}
use mathlib.Core.List.{List}
use Prim.Native.Nat.{ℕ, ◌+◌, ◌-◌}
use native.Mathlib.Omega.{arith}
use lib.Dec.{eqb, ltb}
use lib.ListN.{length}
use Rattle.characters.specs.declared.Class.TheVariants.{Other}
use Rattle.characters.specs.Characters.{run_end}
use Rattle.characters.specs.Ascii.{tab}
use Rattle.text_fields.specs.Fields.{until, has_fields}
use Rattle.characters.proofs.Runs.{from_start}
use Rattle.text_fields.proofs.Lines.{more_fields, few_fields, last_field}
use Rattle.text_fields.proofs.has_fields.Goals as goal

-- a field's end, as the code finds it
ends : (s : List ℕ) (r : ℕ) → r ≡ run_end (Other tab) s 0 → r ≡ until tab s
ends s r e = e ∙ from_start (Other tab) s

pub returns-then-n-eq0 : goal.returns-then-n-eq0
unfolding has_fields
returns-then-n-eq0 c = rw c.if-n-eq0.true

pub loop-preserved : goal.loop-preserved
loop-preserved c =
    let left : c.args.n + 1 - c.loop.counter - 1 ≡ c.args.n + 1 - (c.loop.counter + 1) = omega arith in
    let more = more_fields (c.args.n + 1 - c.loop.counter) c.loop.rest.now (omega (arith, c.loop-test.true)) (rw (ends c.loop.rest.now c.run_end-end.result c.run_end-end.ensures) at c.if-end-rest.true) in
    c.loop.invariant ∙ more ∙ rw left (ap (has_fields (c.args.n + 1 - (c.loop.counter + 1))) (sym c.part_after-next.ensures))

pub returns-else-end-rest : goal.returns-else-end-rest
returns-else-end-rest c = sym (c.loop.invariant ∙ few_fields (c.args.n + 1 - c.loop.counter) c.loop.rest.now (omega (arith, c.loop-test.true)) (rw (ends c.loop.rest.now c.run_end-end.result c.run_end-end.ensures) at c.if-end-rest.false))

pub returns : goal.returns
returns c = let end = ends c.loop.rest.now c.run_end-end-2.result c.run_end-end-2.ensures in
    sym (c.loop.invariant ∙ last_field (c.args.n + 1 - c.loop.counter) c.loop.rest.now (omega (arith, c.loop-test.false, c.loop.auto, c.if-n-eq0.false)) ∙ ap (λ (e : ℕ). ltb 0 e && eqb e (length c.loop.rest.now)) (sym end))
