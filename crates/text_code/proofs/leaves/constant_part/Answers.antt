-- `text_code::leaves::constant_part`: a constant is one word.
use mathlib.Core.Path.{◌≡◌, refl, sym, ap, ◌∙◌}
use mathlib.Core.List.{List, [], ◌∷◌}
use Prim.Native.Nat.{ℕ, ◌+◌}
use native.Mathlib.Omega.{arith}
use Rattle.std.specs.Prelude.{Option}
use Rattle.text_constants.specs.Constants.{constant_at, found}
use Rattle.text_constants.specs.declared.Constant.{Constant}
use Rattle.text_code.specs.declared.Cursor.{Cursor}
use Rattle.text_code.specs.declared.Part.{Part}
use Rattle.text_code.specs.Tree.{constant}
use Rattle.text_code.specs.Readings.{of_constant}
use Rattle.text_code.specs.Code.{code_of}
use Rattle.text_code.specs.Met.{Leaf, Single}
use Rattle.text_constants.proofs.Places.{constant_past}
use Rattle.text_code.proofs.Parts.{no_leaf}
use Rattle.text_code.proofs.leaves.constant_part.Goals as goal

-- a constant that was found
found_leaf : (s : List ℕ) (c : Cursor) {x : Option Constant} → x ≡ constant_at s c.place → {v w p : ℕ} {y : Option Part} {before after : List ℕ} → x ≡ found v w p
    → Single p w (2 ∷ v ∷ w ∷ 0 ∷ []) y c before after
    → Leaf (of_constant (constant_at s c.place)) s (c.place + 1) (c.words + 1) (c.pieces + 1) y c before after
unfolding of_constant code_of
found_leaf s c e {v} {w} f h =
    let o = constant_past s c.place (sym e ∙ f) in
    h (of_constant (constant_at s c.place)) (constant w v) s (ap of_constant (sym e ∙ f)) refl refl refl o.0 o.1

pub leaf_part-requires : goal.leaf_part-requires
leaf_part-requires c = let read = sym c.constant_at.ensures ∙ c.in_ok-read.was in
    omega (arith, c.requires, constant_past c.args.s.now c.args.c.place read)

pub returns : goal.returns
returns c = found_leaf c.args.s.now c.args.c c.constant_at.ensures c.in_ok-read.was c.leaf_part.ensures

pub returns-in_err-read : goal.returns-in_err-read
unfolding of_constant
returns-in_err-read c = rw c.from_residual.ensures (no_leaf (of_constant (constant_at c.args.s.now c.args.c.place)) c.args.s.now (c.args.c.place + 1) (c.args.c.words + 1) (c.args.c.pieces + 1) c.args.c c.args.code.now c.args.code.now
    (ap of_constant (sym c.constant_at.ensures ∙ c.in_err-read.was)))
