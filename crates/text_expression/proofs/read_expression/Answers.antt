-- `text_expression::read_expression`: the weakest level from the start, with calls enough for the field.
use mathlib.Core.Path.{refl, sym, ap, ◌∙◌}
use Prim.Native.Nat.{ℕ, ◌+◌}
use native.Mathlib.Omega.{arith}
use Rattle.std.specs.Prelude.{None}
use Rattle.text_names.specs.Dictionaries.{entries}
use Rattle.text_code.specs.declared.Cursor.{Cursor}
use Rattle.text_operators.specs.declared.Entry.{Entry}
use Rattle.text_operators.specs.Operators.{weakest}
use Rattle.text_grammar.specs.Grammar.{level, fuel}
use Rattle.text_expression.specs.Expression.{whole, expression}
use Rattle.text_code.proofs.Parts.{met, no_leaf}
use Rattle.text_grammar.proofs.Calls.{still_fault, placed}
use Rattle.text_expression.proofs.WholeFields.{trims, untrimmed, same_growth}
use Rattle.text_expression.proofs.read_expression.Goals as goal

abbrev start : ℕ → ℕ → Cursor
start words pieces = record { place = 0; words = words; pieces = pieces }

pub read_level-requires : goal.read_level-requires
read_level-requires c = omega (arith, placed c.args.from c.at-start.result 0 c.at-start.ensures, c.requires, ap (λ (e : Entry). e.strength) c.entry_in-weakest.ensures)

pub whole_part-requires : goal.whole_part-requires
whole_part-requires c = let growth = rw (c.in_ok-part.was, c.at-start.ensures) at c.read_level.ensures.grown in
    omega (arith, c.requires, growth)

pub returns-in_ok-part : goal.returns-in_ok-part
returns-in_ok-part c = let rs = entries c.args.field.now.text.now c.args.field.now.registers in
    let x = level (fuel c.args.field.now.bytes.now) rs c.args.field.now.bytes.now 0 weakest 0 in
    let from = start c.args.from.words c.args.from.pieces in
    let answer = rw (c.in_ok-part.was, c.at-start.ensures, c.entry_in-weakest.ensures) at c.read_level.ensures in
    let trim = trims rs c.args.field.now.bytes.now (sym c.is_trimmed.ensures ∙ c.if-is_trimmed.true) in
    record {
      meets = met (expression rs c.args.field.now.bytes.now) (whole c.args.field.now.bytes.now x) c.whole_part.result from c.args.code.now c.read_level.new.code trim
          (c.whole_part.ensures.meets x from c.args.code.now c.read_level.new.code refl (answer.meets (fuel c.args.field.now.bytes.now) (omega arith)));
      grown = same_growth c.args.field.now.bytes.now c.in_ok-part.part.end c.in_ok-part.part.width c.args.from.pieces 1 (c.args.from.words + 1) (c.args.from.pieces + 1) c.whole_part.result answer.grown c.whole_part.ensures.is;
    }

pub returns-in_err-part : goal.returns-in_err-part
unfolding whole
returns-in_err-part c = let rs = entries c.args.field.now.text.now c.args.field.now.registers in
    let x = level (fuel c.args.field.now.bytes.now) rs c.args.field.now.bytes.now 0 weakest 0 in
    let from = start c.args.from.words c.args.from.pieces in
    let answer = rw (c.in_err-part.was, c.at-start.ensures, c.entry_in-weakest.ensures) at c.read_level.ensures in
    let trim = trims rs c.args.field.now.bytes.now (sym c.is_trimmed.ensures ∙ c.if-is_trimmed.true) in
    rw c.from_residual.ensures
    (record {
      meets = met (expression rs c.args.field.now.bytes.now) (whole c.args.field.now.bytes.now x) None from c.args.code.now c.read_level.new.code trim
          (still_fault (whole c.args.field.now.bytes.now) x from from c.args.code.now c.read_level.new.code c.args.code.now c.read_level.new.code refl (answer.meets (fuel c.args.field.now.bytes.now) (omega arith)));
      grown = tt;
    })

pub returns-else-is_trimmed : goal.returns-else-is_trimmed
returns-else-is_trimmed c = let rs = entries c.args.field.now.text.now c.args.field.now.registers in
    no_leaf (expression rs c.args.field.now.bytes.now) c.args.field.now.bytes.now _ _ _ (start c.args.from.words c.args.from.pieces) c.args.code.now c.args.code.now (untrimmed rs c.args.field.now.bytes.now (sym c.is_trimmed.ensures ∙ c.if-is_trimmed.false))
