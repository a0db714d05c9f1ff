-- `text_expression::memory_place`: the weakest level behind the bracket, with calls enough for the field.
use mathlib.Core.Path.{sym, ap, ◌∙◌}
use Prim.Native.Nat.{◌+◌}
use native.Mathlib.Omega.{arith}
use Rattle.text_names.specs.Dictionaries.{entries}
use Rattle.text_operators.specs.declared.Entry.{Entry}
use Rattle.text_operators.specs.Operators.{weakest}
use Rattle.laws.proofs.Lists.{present}
use Rattle.text_tokens.specs.Signs.{square_open}
use Rattle.text_grammar.specs.Grammar.{level, fuel}
use Rattle.text_grammar.proofs.Calls.{placed}
use Rattle.text_expression.specs.Expression.{of_address, memory_at}
use Rattle.text_expression.proofs.Destinations.{address_fault, aimed, opens, bare}
use Rattle.text_expression.proofs.memory_place.Goals as goal

pub read_level-requires : goal.read_level-requires
read_level-requires c = let inside = present c.args.field.now.bytes.now c.skip_spaces-bracket.result square_open (sym c.byte.ensures ∙ c.if-byte-eq91.true) (omega arith) in
    let there = placed c.args.from c.at-start.result (c.skip_spaces-bracket.result + 1) c.at-start.ensures in
    omega (arith, there, c.requires, inside, ap (λ (e : Entry). e.strength) c.entry_in-weakest.ensures)

pub addressed_place-requires : goal.addressed_place-requires
addressed_place-requires c = let growth = rw (c.in_ok-address.was, c.at-start.ensures) at c.read_level.ensures.grown in
    let there = placed c.args.from c.at-start.result (c.skip_spaces-bracket.result + 1) c.at-start.ensures in
    omega (arith, there, c.requires, growth)

pub returns-in_ok-address : goal.returns-in_ok-address
returns-in_ok-address c = let rs = entries c.args.field.now.text.now c.args.field.now.registers in
    let x = level (fuel c.args.field.now.bytes.now) rs c.args.field.now.bytes.now 0 weakest (c.skip_spaces-bracket.result + 1) in
    let answer = rw (c.in_ok-address.was, c.at-start.ensures, c.entry_in-weakest.ensures) at c.read_level.ensures in
    let growth = answer.grown in
    let there = placed c.args.from c.at-start.result (c.skip_spaces-bracket.result + 1) c.at-start.ensures in
    let leads = rw c.at-start.ensures at c.addressed_place.ensures in
    aimed c.addressed_place.result (memory_at rs c.args.field.now.bytes.now c.args.end) (of_address c.args.field.now.bytes.now x) c.args.field.now.bytes.now (record { place = 0; words = c.args.from.words; pieces = c.args.from.pieces }) (c.skip_spaces-bracket.result + 1) c.args.code.now c.read_level.new.code
    (opens rs c.args.field.now.bytes.now c.args.end c.skip_spaces-bracket.result _ c.skip_spaces-bracket.ensures c.byte.ensures c.if-byte-eq91.true)
    (leads x c.in_ok-address.address.width c.args.code.now c.read_level.new.code (omega (arith, growth)) (omega (arith, growth)) (answer.meets (fuel c.args.field.now.bytes.now) (omega arith)))

pub returns-in_err-address : goal.returns-in_err-address
returns-in_err-address c = let rs = entries c.args.field.now.text.now c.args.field.now.registers in
    let answer = rw (c.in_err-address.was, c.at-start.ensures, c.entry_in-weakest.ensures) at c.read_level.ensures in
    rw c.from_residual.ensures
    (opens rs c.args.field.now.bytes.now c.args.end c.skip_spaces-bracket.result _ c.skip_spaces-bracket.ensures c.byte.ensures c.if-byte-eq91.true
    ∙ address_fault c.args.field.now.bytes.now (level (fuel c.args.field.now.bytes.now) rs c.args.field.now.bytes.now 0 weakest (c.skip_spaces-bracket.result + 1)) (record { place = c.skip_spaces-bracket.result + 1; words = c.args.from.words; pieces = c.args.from.pieces }) c.args.code.now c.read_level.new.code (answer.meets (fuel c.args.field.now.bytes.now) (omega arith)))

pub returns-else-byte-eq91 : goal.returns-else-byte-eq91
returns-else-byte-eq91 c = bare (entries c.args.field.now.text.now c.args.field.now.registers) c.args.field.now.bytes.now c.args.end _ _ c.skip_spaces-bracket.ensures c.byte.ensures c.if-byte-eq91.false
