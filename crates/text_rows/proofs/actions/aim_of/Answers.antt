-- `text_rows::actions::aim_of` is its definition, case by case.
use native.Mathlib.Omega.{arith}
use borrow.Author.Rules.{rules}
use Rattle.text_rows.proofs.actions.aim_of.Goals as goal

pub overflow_sub-result : goal.overflow_sub-result
overflow_sub-result c = let h = rw c.in-Bits.is at c.requires in
    omega (arith, h.0, h.1)

pub overflow_sub-result-in-Bits : goal.overflow_sub-result-in-Bits
overflow_sub-result-in-Bits c = let h = rw c.in-Bits.is at c.requires in
    omega (arith, h.0, h.1)

pub overflow_sub-result-in-Bits-2 : goal.overflow_sub-result-in-Bits-2
overflow_sub-result-in-Bits-2 c = let h = rw c.in-Bits.is at c.requires in
    omega (arith, h.0, h.1)

pub overflow_add-result : goal.overflow_add-result
overflow_add-result c = let h = rw c.in-Bits.is at c.requires in
    search (rules, h)

pub returns-in-Register : goal.returns-in-Register
returns-in-Register c = rw c.in-Register.is

pub returns-in-Bits : goal.returns-in-Bits
returns-in-Bits c = rw c.in-Bits.is

pub returns-in-Word : goal.returns-in-Word
returns-in-Word c = rw c.in-Word.is
