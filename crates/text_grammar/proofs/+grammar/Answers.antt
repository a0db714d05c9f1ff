-- The functions that read operators (a level, the operators behind a left side, one operator with its right side), operands, and what stands in brackets or behind a Not.
use Prim.Native.Nat.{ℕ, ◌+◌, ◌-◌, ◌<◌}
use Prim.Native.Nat.{ℕ, ◌+◌}
use Rattle.characters.proofs.Runs.{onward, within, after_start}
use Rattle.characters.specs.Characters.{is_letter, run_end}
use Rattle.characters.specs.declared.Class.TheVariants.{Space, Word}
use Rattle.laws.proofs.Lists.{present}
use Rattle.text_bit_parts.proofs.Onward.{letters_past, word_of_letter}
use Rattle.text_bit_parts.proofs.Onward.{operator_past}
use Rattle.text_bit_parts.specs.References.{reference_at}
use Rattle.text_code.specs.Readings.{not_of, closed, outside}
use Rattle.text_code.specs.Readings.{outside, of_constant, of_reference}
use Rattle.text_code.specs.Readings.{read, rotation_of, joined}
use Rattle.text_constants.specs.Constants.{constant_at}
use Rattle.text_constants.specs.Constants.{decimal_at}
use Rattle.text_grammar.proofs.Calls.{answered, answered_behind, regrown, still_fault, level_operand, level_more, more_stops, more_goes_on, operation_rotates, operation_joins, more_outside, feed, grown_by_one, placed}
use Rattle.text_grammar.proofs.Calls.{answered, regrown, moved, operand_encloses, operand_worded, operand_constant, worded_not, worded_memory, worded_bare, worded_name}
use Rattle.text_grammar.proofs.Calls.{answered, regrown, still_fault, negated_in, negated_deep, enclosed_in, enclosed_deep}
use Rattle.text_grammar.specs.Grammar.{level, more, operation, operand}
use Rattle.text_grammar.specs.Grammar.{level}
use Rattle.text_grammar.specs.Grammar.{worded, negated, enclosed}
use Rattle.text_grammar.specs.Met.{calls}
use Rattle.text_names.specs.Dictionaries.{entries}
use Rattle.text_operators.specs.Operators.{strongest, entry_in}
use Rattle.text_operators.specs.Operators.{strongest, weakest}
use Rattle.text_operators.specs.declared.Entry.{Entry}
use Rattle.text_tokens.specs.Signs.{round_open, round_close, square_open, square_close}
use Rattle.text_tokens.specs.Tokens.{skip}
use lib.ListN.{get_or}
use mathlib.Core.Path.{refl, ap}
use mathlib.Core.Path.{refl, sym, ap, ◌∙◌}
use mathlib.Core.Path.{◌≡◌, refl, sym, ap, ◌∙◌}
use native.Mathlib.Omega.{arith}
use Rattle.text_grammar.proofs.+grammar.Goals as goal

pub read_level-read_operand-requires : goal.read_level-read_operand-requires
read_level-read_operand-requires t c = omega (arith, c.requires, c.if-strength-strongest.true, ap (λ (e : Entry). e.strength) c.entry_in-strongest.ensures)

pub read_level-returns-then-strength-strongest : goal.read_level-returns-then-strength-strongest
read_level-returns-then-strength-strongest t c = let rs = entries c.args.field.now.text.now c.args.field.now.registers in
    let is : c.args.strength ≡ strongest = omega (arith, c.if-strength-strongest.true, ap (λ (e : Entry). e.strength) c.entry_in-strongest.ensures) in
    answered (calls c.args.field.now.bytes.now c.args.c.place 1) (λ g. operand g rs c.args.field.now.bytes.now c.args.depth c.args.c.place) (omega arith) (level_operand rs c.args.field.now.bytes.now c.args.depth c.args.strength c.args.c.place is) c.read_operand.ensures.meets c.read_operand.ensures.grown

pub read_level-overflow_add-strength : goal.read_level-overflow_add-strength
read_level-overflow_add-strength t c = omega (arith, c.requires)

pub read_level-read_level-requires : goal.read_level-read_level-requires
read_level-read_level-requires t c = omega (arith, c.requires, c.if-strength-strongest.false, ap (λ (e : Entry). e.strength) c.entry_in-strongest.ensures)

pub read_level-read_more-requires : goal.read_level-read_more-requires
read_level-read_more-requires t c = let growth = rw c.in_ok-left.was at c.read_level.ensures.grown in
    omega (arith, c.requires, growth, c.if-strength-strongest.false, ap (λ (e : Entry). e.strength) c.entry_in-strongest.ensures)

pub read_level-returns : goal.read_level-returns
read_level-returns t c = let rs = entries c.args.field.now.text.now c.args.field.now.registers in
    let answer = rw c.in_ok-left.was at c.read_level.ensures in
    let growth = answer.grown in
    let weaker : c.args.strength < strongest = omega (arith, c.requires, c.if-strength-strongest.false, ap (λ (e : Entry). e.strength) c.entry_in-strongest.ensures) in
    answered (calls c.args.field.now.bytes.now c.args.c.place (9 - (c.args.strength + 1))) (λ g. more g rs c.args.field.now.bytes.now c.args.depth c.args.strength (level g rs c.args.field.now.bytes.now c.args.depth (c.args.strength + 1) c.args.c.place)) (omega arith) (level_more rs c.args.field.now.bytes.now c.args.depth c.args.strength c.args.c.place weaker)
    (λ g b.
    feed rs c.args.field.now.bytes.now c.args.depth c.args.strength g (level g rs c.args.field.now.bytes.now c.args.depth (c.args.strength + 1) c.args.c.place) c.in_ok-left.left.end c.in_ok-left.left.width _ _ _ _ _
    (λ l q e. c.read_more.ensures.meets l q _ _ e g (omega (arith, growth, b)))
    (answer.meets g b))
    (regrown c.args.field.now.bytes.now c.read_more.result _ _ _ _ _ _ c.read_more.ensures.grown (omega (arith, growth)))

pub read_level-returns-in_err-left : goal.read_level-returns-in_err-left
read_level-returns-in_err-left t c = let rs = entries c.args.field.now.text.now c.args.field.now.registers in
    let answer = rw c.in_err-left.was at c.read_level.ensures in
    let weaker : c.args.strength < strongest = omega (arith, c.requires, c.if-strength-strongest.false, ap (λ (e : Entry). e.strength) c.entry_in-strongest.ensures) in
    rw c.from_residual.ensures
    (answered (calls c.args.field.now.bytes.now c.args.c.place (9 - (c.args.strength + 1))) (λ g. more g rs c.args.field.now.bytes.now c.args.depth c.args.strength (level g rs c.args.field.now.bytes.now c.args.depth (c.args.strength + 1) c.args.c.place)) (omega arith) (level_more rs c.args.field.now.bytes.now c.args.depth c.args.strength c.args.c.place weaker)
    (λ g b. still_fault (more g rs c.args.field.now.bytes.now c.args.depth c.args.strength) (level g rs c.args.field.now.bytes.now c.args.depth (c.args.strength + 1) c.args.c.place) _ _ _ _ _ _ (more_outside rs c.args.field.now.bytes.now c.args.depth c.args.strength g) (answer.meets g b))
    tt)

pub read_more-returns-then-entry-strength : goal.read_more-returns-then-entry-strength
read_more-returns-then-entry-strength t c = let rs = entries c.args.field.now.text.now c.args.field.now.registers in
    answered_behind (calls c.args.field.now.bytes.now c.args.left.end.place 8) (λ g l. read l c.args.left.end.place) (omega arith)
    (λ l. more_stops rs c.args.field.now.bytes.now c.args.depth c.args.strength l c.args.left.end.place _ c.operator_at.ensures _ c.entry_in-entry.ensures c.if-entry-strength.true)
    (λ l from before h g b. h)
    (omega (arith, c.requires))

pub read_more-read_operation-requires : goal.read_more-read_operation-requires
read_more-read_operation-requires t c = let strength = ap (λ (e : Entry). e.strength) c.entry_in-entry.ensures ∙ ap (λ (r : ℕ). (entry_in r).strength) c.operator_at.ensures in
    (omega (arith, c.decreases), (c.requires.0, (c.requires.1.0, ((c.requires.1.1.0, c.requires.1.1.1.0), (c.requires.1.1.1.1, sym strength ∙ c.if-entry-strength.false)))))

pub read_more-read_more-requires : goal.read_more-read_more-requires
read_more-read_more-requires t c = let growth = rw c.in_ok-next.was at c.read_operation.ensures.grown in
    omega (arith, c.requires, growth)

pub read_more-returns : goal.read_more-returns
read_more-returns t c = let rs = entries c.args.field.now.text.now c.args.field.now.registers in
    let answer = rw c.in_ok-next.was at c.read_operation.ensures in
    let growth = answer.grown in
    answered_behind (calls c.args.field.now.bytes.now c.args.left.end.place 8) (λ g l. more g rs c.args.field.now.bytes.now c.args.depth c.args.strength (operation g rs c.args.field.now.bytes.now c.args.depth c.args.strength l c.args.left.end.place)) (omega arith)
    (λ l. more_goes_on rs c.args.field.now.bytes.now c.args.depth c.args.strength l c.args.left.end.place _ c.operator_at.ensures _ c.entry_in-entry.ensures c.if-entry-strength.false)
    (λ l from before h g b.
    feed rs c.args.field.now.bytes.now c.args.depth c.args.strength g (operation g rs c.args.field.now.bytes.now c.args.depth c.args.strength l c.args.left.end.place) c.in_ok-next.next.end c.in_ok-next.next.width _ from before _ _
    (λ m q e. c.read_more.ensures.meets m q from before e g (omega (arith, growth, b)))
    (answer.meets l c.args.left.end.place from before h g b))
    (regrown c.args.field.now.bytes.now c.read_more.result _ _ _ _ _ _ c.read_more.ensures.grown (omega (arith, growth)))

pub read_more-returns-in_err-next : goal.read_more-returns-in_err-next
read_more-returns-in_err-next t c = let rs = entries c.args.field.now.text.now c.args.field.now.registers in
    let answer = rw c.in_err-next.was at c.read_operation.ensures in
    rw c.from_residual.ensures
    (answered_behind (calls c.args.field.now.bytes.now c.args.left.end.place 8) (λ g l. more g rs c.args.field.now.bytes.now c.args.depth c.args.strength (operation g rs c.args.field.now.bytes.now c.args.depth c.args.strength l c.args.left.end.place)) (omega arith)
    (λ l. more_goes_on rs c.args.field.now.bytes.now c.args.depth c.args.strength l c.args.left.end.place _ c.operator_at.ensures _ c.entry_in-entry.ensures c.if-entry-strength.false)
    (λ l from before h g b. still_fault (more g rs c.args.field.now.bytes.now c.args.depth c.args.strength) (operation g rs c.args.field.now.bytes.now c.args.depth c.args.strength l c.args.left.end.place) _ from _ _ before _ (more_outside rs c.args.field.now.bytes.now c.args.depth c.args.strength g) (answer.meets l c.args.left.end.place from before h g b))
    tt)

pub read_operation-rotated_part-requires : goal.read_operation-rotated_part-requires
read_operation-rotated_part-requires t c = let past = operator_past c.args.field.now.bytes.now c.args.left.end.place c.args.strength c.requires.1.1.1.1 c.requires.1.1.0.0 in
    let rotates = c.if-strength-rotations.true ∙ ap (λ (e : Entry). e.strength) c.entry_in-rotations.ensures in
    let row = ap (λ (r : ℕ). (entry_in r).strength) c.operator_at-row.ensures ∙ c.requires.1.1.1.1 ∙ rotates in
    omega (arith, c.requires, past, row, c.operator_end-end.ensures)

pub read_operation-returns-then-strength-rotations : goal.read_operation-returns-then-strength-rotations
read_operation-returns-then-strength-rotations t c = let past = operator_past c.args.field.now.bytes.now c.args.left.end.place c.args.strength c.requires.1.1.1.1 c.requires.1.1.0.0 in
    let rs = entries c.args.field.now.text.now c.args.field.now.registers in
    let rotates = c.if-strength-rotations.true ∙ ap (λ (e : Entry). e.strength) c.entry_in-rotations.ensures in
    answered_behind 0 (λ g l. rotation_of c.operator_at-row.result l (decimal_at c.args.field.now.bytes.now (skip c.args.field.now.bytes.now c.operator_end-end.result))) (omega arith)
    (λ l. operation_rotates rs c.args.field.now.bytes.now c.args.depth c.args.strength l c.args.left.end.place c.operator_at-row.result c.operator_at-row.ensures c.operator_end-end.result c.operator_end-end.ensures rotates)
    (λ l from before h g b. c.rotated_part.ensures.meets l c.args.left.end.place from before h 0 (omega arith))
    (regrown c.args.field.now.bytes.now c.rotated_part.result _ _ _ _ _ _ c.rotated_part.ensures.grown (omega arith))

pub read_operation-read_level-requires : goal.read_operation-read_level-requires
read_operation-read_level-requires t c = let there = placed c.args.left.end c.at-start.result c.operator_end-end.result c.at-start.ensures in
    let past = operator_past c.args.field.now.bytes.now c.args.left.end.place c.args.strength c.requires.1.1.1.1 c.requires.1.1.0.0 in
    omega (arith, there, c.requires, past, c.operator_end-end.ensures, c.operator_at-row.ensures)

pub read_operation-joined_part-requires : goal.read_operation-joined_part-requires
read_operation-joined_part-requires t c = let past = operator_past c.args.field.now.bytes.now c.args.left.end.place c.args.strength c.requires.1.1.1.1 c.requires.1.1.0.0 in
    let growth = rw (c.in_ok-right.was, c.at-start.ensures) at c.read_level.ensures.grown in
    omega (arith, growth, c.requires, past, c.operator_end-end.ensures, c.operator_at-row.ensures)

pub read_operation-returns : goal.read_operation-returns
read_operation-returns t c = let past = operator_past c.args.field.now.bytes.now c.args.left.end.place c.args.strength c.requires.1.1.1.1 c.requires.1.1.0.0 in
    let rs = entries c.args.field.now.text.now c.args.field.now.registers in
    let answer = rw (c.in_ok-right.was, c.at-start.ensures) at c.read_level.ensures in
    let growth = answer.grown in
    let rotations-are = ap (λ (e : Entry). e.strength) c.entry_in-rotations.ensures in
    let one_more = grown_by_one c.args.field.now.bytes.now c.in_ok-right.right.end c.in_ok-right.right.width _ _ _ c.joined_part.result growth c.joined_part.ensures.one_more in
    answered_behind (calls c.args.field.now.bytes.now c.operator_end-end.result (9 - (c.args.strength + 1))) (λ g l. joined c.operator_at-row.result l (level g rs c.args.field.now.bytes.now c.args.depth (c.args.strength + 1) c.operator_end-end.result)) (omega arith)
    (λ l. operation_joins rs c.args.field.now.bytes.now c.args.depth c.args.strength l c.args.left.end.place c.operator_at-row.result c.operator_at-row.ensures c.operator_end-end.result c.operator_end-end.ensures (λ i. c.if-strength-rotations.false (i ∙ sym rotations-are)))
    (λ l from before h g b. c.joined_part.ensures.meets l (level g rs c.args.field.now.bytes.now c.args.depth (c.args.strength + 1) c.operator_end-end.result) c.args.left.end.place c.operator_end-end.result from before c.args.code.now h (answer.meets g b))
    (regrown c.args.field.now.bytes.now c.joined_part.result _ _ _ _ _ _ one_more (omega arith))

pub read_operation-returns-in_err-right : goal.read_operation-returns-in_err-right
unfolding joined
read_operation-returns-in_err-right t c = let past = operator_past c.args.field.now.bytes.now c.args.left.end.place c.args.strength c.requires.1.1.1.1 c.requires.1.1.0.0 in
    let rs = entries c.args.field.now.text.now c.args.field.now.registers in
    let answer = rw (c.in_err-right.was, c.at-start.ensures) at c.read_level.ensures in
    let rotations-are = ap (λ (e : Entry). e.strength) c.entry_in-rotations.ensures in
    rw c.from_residual.ensures
    (answered_behind (calls c.args.field.now.bytes.now c.operator_end-end.result (9 - (c.args.strength + 1))) (λ g l. joined c.operator_at-row.result l (level g rs c.args.field.now.bytes.now c.args.depth (c.args.strength + 1) c.operator_end-end.result)) (omega arith)
    (λ l. operation_joins rs c.args.field.now.bytes.now c.args.depth c.args.strength l c.args.left.end.place c.operator_at-row.result c.operator_at-row.ensures c.operator_end-end.result c.operator_end-end.ensures (λ i. c.if-strength-rotations.false (i ∙ sym rotations-are)))
    (λ l from before h g b. still_fault (joined c.operator_at-row.result l) (level g rs c.args.field.now.bytes.now c.args.depth (c.args.strength + 1) c.operator_end-end.result) _ from _ _ before _ refl (answer.meets g b))
    tt)

pub read_operand-read_enclosed-requires : goal.read_operand-read_enclosed-requires
read_operand-read_enclosed-requires t c = let there = placed c.args.c c.at-inner.result (c.skip_spaces-start.result + 1) c.at-inner.ensures in
    let inside = present c.args.field.now.bytes.now c.skip_spaces-start.result round_open (sym c.byte-first.ensures ∙ c.if-first-eq40.true) (omega arith) in
    let forward = onward Space c.args.field.now.bytes.now c.args.c.place in
    let fits = within Space c.args.field.now.bytes.now c.args.c.place c.requires.0.place_in in
    omega (arith, there, c.requires, inside, c.skip_spaces-start.ensures, forward, fits)

pub read_operand-returns-then-first-eq40 : goal.read_operand-returns-then-first-eq40
read_operand-returns-then-first-eq40 t c = let rs = entries c.args.field.now.text.now c.args.field.now.registers in
    let inside = present c.args.field.now.bytes.now c.skip_spaces-start.result round_open (sym c.byte-first.ensures ∙ c.if-first-eq40.true) (omega arith) in
    let forward = onward Space c.args.field.now.bytes.now c.args.c.place in
    let answer = rw c.at-inner.ensures at c.read_enclosed.ensures in
    answered (calls c.args.field.now.bytes.now (c.skip_spaces-start.result + 1) 9) (λ g. enclosed g rs c.args.field.now.bytes.now c.args.depth round_close (c.skip_spaces-start.result + 1)) (omega arith)
    (operand_encloses rs c.args.field.now.bytes.now c.args.depth c.args.c.place c.skip_spaces-start.result _ c.skip_spaces-start.ensures c.byte-first.ensures c.if-first-eq40.true)
    (λ g b. moved c.args.c (c.skip_spaces-start.result + 1) (enclosed g rs c.args.field.now.bytes.now c.args.depth round_close (c.skip_spaces-start.result + 1)) _ _ _ (answer.meets g b))
    (regrown c.args.field.now.bytes.now c.read_enclosed.result _ _ _ _ _ _ answer.grown (omega arith))

pub read_operand-read_worded-requires : goal.read_operand-read_worded-requires
read_operand-read_worded-requires t c = let there = placed c.args.c c.at-here.result c.skip_spaces-start.result c.at-here.ensures in
    let letter = ap is_letter (sym c.byte-first.ensures) ∙ sym c.is_letter.ensures ∙ c.if-is_letter.true in
    let inside = letters_past c.args.field.now.bytes.now c.skip_spaces-start.result (run_end Word c.args.field.now.bytes.now c.skip_spaces-start.result) letter refl in
    let forward = onward Space c.args.field.now.bytes.now c.args.c.place in
    let fits = within Space c.args.field.now.bytes.now c.args.c.place c.requires.0.place_in in
    (omega (arith, there, c.requires, c.skip_spaces-start.ensures, forward, fits, inside), (omega (arith, there, c.requires, c.skip_spaces-start.ensures, forward, fits), (c.requires.1, ap (λ (k : ℕ). is_letter (get_or c.args.field.now.bytes.now k 0)) there.0 ∙ letter)))

pub read_operand-constant_part-requires : goal.read_operand-constant_part-requires
read_operand-constant_part-requires t c = let there = placed c.args.c c.at-here.result c.skip_spaces-start.result c.at-here.ensures in
    let forward = onward Space c.args.field.now.bytes.now c.args.c.place in
    let fits = within Space c.args.field.now.bytes.now c.args.c.place c.requires.0.place_in in
    omega (arith, there, c.requires, c.skip_spaces-start.ensures, forward, fits)

pub read_operand-returns-then-is_letter : goal.read_operand-returns-then-is_letter
read_operand-returns-then-is_letter t c = let rs = entries c.args.field.now.text.now c.args.field.now.registers in
    let letter = sym c.is_letter.ensures ∙ c.if-is_letter.true in
    let forward = onward Space c.args.field.now.bytes.now c.args.c.place in
    let fits = within Space c.args.field.now.bytes.now c.args.c.place c.requires.0.place_in in
    let answer = rw c.at-here.ensures at c.read_worded.ensures in
    answered (calls c.args.field.now.bytes.now c.skip_spaces-start.result 0) (λ g. worded g rs c.args.field.now.bytes.now c.args.depth c.skip_spaces-start.result) (omega arith)
    (operand_worded rs c.args.field.now.bytes.now c.args.depth c.args.c.place c.skip_spaces-start.result _ c.skip_spaces-start.ensures c.byte-first.ensures c.if-first-eq40.false letter)
    (λ g b. moved c.args.c c.skip_spaces-start.result (worded g rs c.args.field.now.bytes.now c.args.depth c.skip_spaces-start.result) _ _ _ (answer.meets g b))
    (regrown c.args.field.now.bytes.now c.read_worded.result _ _ _ _ _ _ answer.grown (omega arith))

pub read_operand-returns-else-is_letter : goal.read_operand-returns-else-is_letter
read_operand-returns-else-is_letter t c = let rs = entries c.args.field.now.text.now c.args.field.now.registers in
    let letter = sym c.is_letter.ensures ∙ c.if-is_letter.false in
    let forward = onward Space c.args.field.now.bytes.now c.args.c.place in
    let answer = rw c.at-here.ensures at c.constant_part.ensures in
    answered 0 (λ g. of_constant (constant_at c.args.field.now.bytes.now c.skip_spaces-start.result)) (omega arith)
    (operand_constant rs c.args.field.now.bytes.now c.args.depth c.args.c.place c.skip_spaces-start.result _ c.skip_spaces-start.ensures c.byte-first.ensures c.if-first-eq40.false letter)
    (λ g b. moved c.args.c c.skip_spaces-start.result (of_constant (constant_at c.args.field.now.bytes.now c.skip_spaces-start.result)) _ _ _ answer.meets)
    (regrown c.args.field.now.bytes.now c.constant_part.result _ _ _ _ _ _ answer.grown (omega arith))

pub read_worded-overflow_sub-end : goal.read_worded-overflow_sub-end
read_worded-overflow_sub-end t c = after_start Word c.args.field.now.bytes.now c.args.c.place c.run_end-end.result c.run_end-end.ensures

pub read_worded-read_negated-requires : goal.read_worded-read_negated-requires
read_worded-read_negated-requires t c = let there = placed c.args.c c.at-operand.result c.run_end-end.result c.at-operand.ensures in
    let past = letters_past c.args.field.now.bytes.now c.args.c.place c.run_end-end.result c.requires.1.1 c.run_end-end.ensures in
    omega (arith, there, c.requires, past)

pub read_worded-returns-then-is_same : goal.read_worded-returns-then-is_same
read_worded-returns-then-is_same t c = let past = letters_past c.args.field.now.bytes.now c.args.c.place c.run_end-end.result c.requires.1.1 c.run_end-end.ensures in
    let rs = entries c.args.field.now.text.now c.args.field.now.registers in
    let answer = rw c.at-operand.ensures at c.read_negated.ensures in
    answered (calls c.args.field.now.bytes.now c.run_end-end.result 3) (λ g. negated g rs c.args.field.now.bytes.now c.args.depth c.run_end-end.result) (omega arith)
    (worded_not rs c.args.field.now.bytes.now c.args.depth c.args.c.place c.run_end-end.result _ c.run_end-end.ensures c.part-token.ensures (sym c.is_same.ensures ∙ c.if-is_same.true))
    (λ g b. moved c.args.c c.run_end-end.result (negated g rs c.args.field.now.bytes.now c.args.depth c.run_end-end.result) _ _ _ (answer.meets g b))
    (regrown c.args.field.now.bytes.now c.read_negated.result _ _ _ _ _ _ answer.grown (omega arith))

pub read_worded-returns-then-byte-ne91 : goal.read_worded-returns-then-byte-ne91
read_worded-returns-then-byte-ne91 t c = let past = letters_past c.args.field.now.bytes.now c.args.c.place c.run_end-end.result c.requires.1.1 c.run_end-end.ensures in
    let rs = entries c.args.field.now.text.now c.args.field.now.registers in
    let no_not = sym c.is_same.ensures ∙ c.if-is_same.false in
    let is-memory = sym c.is_same-2.ensures ∙ c.if-is_same-2.true in
    answered 0 (λ g. outside) (omega arith)
    (worded_bare rs c.args.field.now.bytes.now c.args.depth c.args.c.place _ _ c.run_end-end.ensures c.part-token.ensures no_not is-memory _ _ c.skip_spaces-open.ensures c.byte.ensures c.if-byte-ne91.true)
    (λ g b. tt)
    tt

pub read_worded-read_enclosed-requires : goal.read_worded-read_enclosed-requires
read_worded-read_enclosed-requires t c = let there = placed c.args.c c.at-address.result (c.skip_spaces-open.result + 1) c.at-address.ensures in
    let past = letters_past c.args.field.now.bytes.now c.args.c.place c.run_end-end.result c.requires.1.1 c.run_end-end.ensures in
    let inside = present c.args.field.now.bytes.now c.skip_spaces-open.result square_open (sym c.byte.ensures ∙ c.if-byte-ne91.false) (omega arith) in
    omega (arith, there, c.requires, past, inside, c.skip_spaces-open.ensures, onward Space c.args.field.now.bytes.now c.run_end-end.result)

pub read_worded-returns-then-is_same-2 : goal.read_worded-returns-then-is_same-2
read_worded-returns-then-is_same-2 t c = let past = letters_past c.args.field.now.bytes.now c.args.c.place c.run_end-end.result c.requires.1.1 c.run_end-end.ensures in
    let rs = entries c.args.field.now.text.now c.args.field.now.registers in
    let no_not = sym c.is_same.ensures ∙ c.if-is_same.false in
    let is-memory = sym c.is_same-2.ensures ∙ c.if-is_same-2.true in
    let inside = present c.args.field.now.bytes.now c.skip_spaces-open.result square_open (sym c.byte.ensures ∙ c.if-byte-ne91.false) (omega arith) in
    let forward = onward Space c.args.field.now.bytes.now c.run_end-end.result in
    let answer = rw c.at-address.ensures at c.read_enclosed.ensures in
    answered (calls c.args.field.now.bytes.now (c.skip_spaces-open.result + 1) 9) (λ g. enclosed g rs c.args.field.now.bytes.now c.args.depth square_close (c.skip_spaces-open.result + 1)) (omega arith)
    (worded_memory rs c.args.field.now.bytes.now c.args.depth c.args.c.place _ _ c.run_end-end.ensures c.part-token.ensures no_not is-memory c.skip_spaces-open.result _ c.skip_spaces-open.ensures c.byte.ensures c.if-byte-ne91.false)
    (λ g b. moved c.args.c (c.skip_spaces-open.result + 1) (enclosed g rs c.args.field.now.bytes.now c.args.depth square_close (c.skip_spaces-open.result + 1)) _ _ _ (answer.meets g b))
    (regrown c.args.field.now.bytes.now c.read_enclosed.result _ _ _ _ _ _ answer.grown (omega arith))

pub read_worded-reference_part-requires : goal.read_worded-reference_part-requires
read_worded-reference_part-requires t c = record { has_room = c.requires.0; few_names = c.requires.1.0; at_word = word_of_letter (get_or c.args.field.now.bytes.now c.args.c.place 0) c.requires.1.1 }

pub read_worded-returns : goal.read_worded-returns
read_worded-returns t c = let past = letters_past c.args.field.now.bytes.now c.args.c.place c.run_end-end.result c.requires.1.1 c.run_end-end.ensures in
    let rs = entries c.args.field.now.text.now c.args.field.now.registers in
    let no_not = sym c.is_same.ensures ∙ c.if-is_same.false in
    answered 0 (λ g. of_reference (reference_at rs c.args.field.now.bytes.now c.args.c.place)) (omega arith)
    (worded_name rs c.args.field.now.bytes.now c.args.depth c.args.c.place _ _ c.run_end-end.ensures c.part-token.ensures no_not (sym c.is_same-2.ensures ∙ c.if-is_same-2.false))
    (λ g b. c.reference_part.ensures.meets)
    c.reference_part.ensures.grown

pub read_negated-read_level-requires : goal.read_negated-read_level-requires
read_negated-read_level-requires t c = omega (arith, c.requires, ap (λ (e : Entry). e.strength) c.entry_in-own.ensures)

pub read_negated-complemented_part-requires : goal.read_negated-complemented_part-requires
read_negated-complemented_part-requires t c = let growth = rw c.in_ok-operand.was at c.read_level.ensures.grown in
    omega (arith, c.requires, growth)

pub read_negated-returns-in_ok-operand : goal.read_negated-returns-in_ok-operand
read_negated-returns-in_ok-operand t c = let rs = entries c.args.field.now.text.now c.args.field.now.registers in
    let answer = rw (c.in_ok-operand.was, c.entry_in-own.ensures) at c.read_level.ensures in
    let growth = answer.grown in
    answered (calls c.args.field.now.bytes.now c.args.c.place 2) (λ g. not_of (level g rs c.args.field.now.bytes.now (c.args.depth + 1) strongest c.args.c.place)) (omega arith) (negated_in rs c.args.field.now.bytes.now c.args.depth c.args.c.place c.if-depth-lt-DEEPEST.true)
    (λ g b. c.complemented_part.ensures.meets (level g rs c.args.field.now.bytes.now (c.args.depth + 1) strongest c.args.c.place) _ _ (answer.meets g b))
    (rw c.complemented_part.ensures.is (omega (arith, growth)))

pub read_negated-returns-in_err-operand : goal.read_negated-returns-in_err-operand
unfolding not_of
read_negated-returns-in_err-operand t c = let rs = entries c.args.field.now.text.now c.args.field.now.registers in
    let answer = rw (c.in_err-operand.was, c.entry_in-own.ensures) at c.read_level.ensures in
    rw c.from_residual.ensures
    (answered (calls c.args.field.now.bytes.now c.args.c.place 2) (λ g. not_of (level g rs c.args.field.now.bytes.now (c.args.depth + 1) strongest c.args.c.place)) (omega arith) (negated_in rs c.args.field.now.bytes.now c.args.depth c.args.c.place c.if-depth-lt-DEEPEST.true)
    (λ g b. still_fault not_of (level g rs c.args.field.now.bytes.now (c.args.depth + 1) strongest c.args.c.place) _ _ _ _ _ _ refl (answer.meets g b))
    tt)

pub read_negated-returns-else-depth-lt-DEEPEST : goal.read_negated-returns-else-depth-lt-DEEPEST
read_negated-returns-else-depth-lt-DEEPEST t c = answered 0 (λ g. outside) (omega arith) (negated_deep (entries c.args.field.now.text.now c.args.field.now.registers) c.args.field.now.bytes.now c.args.depth c.args.c.place c.if-depth-lt-DEEPEST.false) (λ g b. tt) tt

pub read_enclosed-read_level-requires : goal.read_enclosed-read_level-requires
read_enclosed-read_level-requires t c = omega (arith, c.requires, ap (λ (e : Entry). e.strength) c.entry_in-weakest.ensures)

pub read_enclosed-closed_part-requires : goal.read_enclosed-closed_part-requires
read_enclosed-closed_part-requires t c = let growth = rw c.in_ok-inner.was at c.read_level.ensures.grown in
    omega (arith, c.requires, growth)

pub read_enclosed-returns-in_ok-inner : goal.read_enclosed-returns-in_ok-inner
read_enclosed-returns-in_ok-inner t c = let rs = entries c.args.field.now.text.now c.args.field.now.registers in
    let answer = rw (c.in_ok-inner.was, c.entry_in-weakest.ensures) at c.read_level.ensures in
    let growth = answer.grown in
    answered (calls c.args.field.now.bytes.now c.args.c.place 8) (λ g. closed c.args.field.now.bytes.now c.args.close (level g rs c.args.field.now.bytes.now (c.args.depth + 1) weakest c.args.c.place)) (omega arith) (enclosed_in rs c.args.field.now.bytes.now c.args.depth c.args.c.place c.args.close c.if-depth-lt-DEEPEST.true)
    (λ g b. c.closed_part.ensures.meets (level g rs c.args.field.now.bytes.now (c.args.depth + 1) weakest c.args.c.place) _ _ (answer.meets g (omega (arith, b))))
    (regrown c.args.field.now.bytes.now c.closed_part.result _ _ _ _ _ _ c.closed_part.ensures.grown (omega (arith, growth)))

pub read_enclosed-returns-in_err-inner : goal.read_enclosed-returns-in_err-inner
unfolding closed
read_enclosed-returns-in_err-inner t c = let rs = entries c.args.field.now.text.now c.args.field.now.registers in
    let answer = rw (c.in_err-inner.was, c.entry_in-weakest.ensures) at c.read_level.ensures in
    rw c.from_residual.ensures
    (answered (calls c.args.field.now.bytes.now c.args.c.place 8) (λ g. closed c.args.field.now.bytes.now c.args.close (level g rs c.args.field.now.bytes.now (c.args.depth + 1) weakest c.args.c.place)) (omega arith) (enclosed_in rs c.args.field.now.bytes.now c.args.depth c.args.c.place c.args.close c.if-depth-lt-DEEPEST.true)
    (λ g b. still_fault (closed c.args.field.now.bytes.now c.args.close) (level g rs c.args.field.now.bytes.now (c.args.depth + 1) weakest c.args.c.place) _ _ _ _ _ _ refl (answer.meets g (omega (arith, b))))
    tt)

pub read_enclosed-returns-else-depth-lt-DEEPEST : goal.read_enclosed-returns-else-depth-lt-DEEPEST
read_enclosed-returns-else-depth-lt-DEEPEST t c = answered 0 (λ g. outside) (omega arith) (enclosed_deep (entries c.args.field.now.text.now c.args.field.now.registers) c.args.field.now.bytes.now c.args.depth c.args.c.place c.args.close c.if-depth-lt-DEEPEST.false) (λ g b. tt) tt
