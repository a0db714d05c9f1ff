-- `text_code::compounds::rotated_part`: a rotation is one word, and its count one piece of two.
use mathlib.Core.Path.{◌≡◌, sym, ap, ◌∙◌}
use mathlib.Core.List.{List}
use Prim.Native.Nat.{ℕ, ◌+◌, ◌<◌}
use native.Mathlib.Omega.{arith}
use lib.ListN.{length}
use Rattle.std.specs.Prelude.{Option}
use Rattle.text_operators.specs.Operators.{table, entry_in, rotations}
use Rattle.text_operators.proofs.Rows.{row_small, rotation_width}
use Rattle.text_constants.specs.Constants.{decimal_at}
use Rattle.text_constants.specs.declared.Number.{Number}
use Rattle.characters.specs.declared.Class.TheVariants.{Space}
use Rattle.characters.proofs.Runs.{onward}
use Rattle.text_tokens.specs.Tokens.{skip}
use Rattle.text_constants.proofs.Places.{decimal_past}
use Rattle.text_code.proofs.Making.{rotates, large_count, no_count}
use Rattle.text_code.proofs.compounds.rotated_part.Goals as goal

-- a rotation stands in the table
in_table : (row : ℕ) → (entry_in row).strength ≡ rotations → row < length table
in_table row e = row_small row rotations e (omega arith)

-- the count, as the code finds it
counts : (s : List ℕ) (at : ℕ) {e : ℕ} {x y : Option Number} → e ≡ skip s at → x ≡ decimal_at s e → x ≡ y → decimal_at s (skip s at) ≡ y
counts s at skipped read is = ap (decimal_at s) (sym skipped) ∙ sym read ∙ is

pub overflow_cast-row : goal.overflow_cast-row
overflow_cast-row c = omega (arith, in_table c.args.row c.requires.is_rotation)

pub overflow_add-row : goal.overflow_add-row
overflow_add-row c = omega (arith, in_table c.args.row c.requires.is_rotation)

pub returns-in_err-count : goal.returns-in_err-count
returns-in_err-count c = rw c.from_residual.ensures
    (no_count c.args.s.now c.args.row c.args.at c.args.left.end c.args.left.width c.args.code.now (c.args.at + 1) (c.args.left.end.words + 2) (c.args.left.end.pieces + 2) c.args.code.now
    (counts c.args.s.now c.args.at c.skip_spaces.ensures c.decimal_at.ensures c.in_err-count.was))

pub returns-then-count-gt-LARGEST_COUNT : goal.returns-then-count-gt-LARGEST_COUNT
returns-then-count-gt-LARGEST_COUNT c = large_count c.args.s.now c.args.row c.args.at c.args.left.end c.args.left.width c.args.code.now (c.args.at + 1) (c.args.left.end.words + 2) (c.args.left.end.pieces + 2) c.args.code.now
    c.in_ok-count.count.value c.in_ok-count.count.place
    (counts c.args.s.now c.args.at c.skip_spaces.ensures c.decimal_at.ensures c.in_ok-count.was)
    c.if-count-gt-LARGEST_COUNT.true

pub returns : goal.returns
returns c = let e = counts c.args.s.now c.args.at c.skip_spaces.ensures c.decimal_at.ensures c.in_ok-count.was in
    let o = decimal_past c.args.s.now (skip c.args.s.now c.args.at) e in
    rw (c.with_word.ensures, c.emit.ensures, c.width_in-whole.ensures, rotation_width c.args.row c.args.left.width 0 c.requires.is_rotation)
    (rotates c.args.s.now c.args.row c.args.at c.args.left.end c.args.left.width c.args.code.now c.in_ok-count.count.value c.in_ok-count.count.place e
    c.if-count-gt-LARGEST_COUNT.false (in_table c.args.row c.requires.is_rotation) c.requires.narrow (omega (arith, onward Space c.args.s.now c.args.at)) c.requires.onward)
