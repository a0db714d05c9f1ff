-- `text_declaration::lines::add_register`: the dictionary has the name that stands in the text.
use mathlib.Core.Path.{ap, ◌∙◌}
use native.Mathlib.Omega.{arith}
use Rattle.text_declaration.specs.Lines.{width_of}
use Rattle.text_declaration.proofs.Declarations.{one_register, no_register, bad_register}
use Rattle.text_declaration.proofs.lines.add_register.Goals as goal

pub returns-then-not-is_new_name-is_width : goal.returns-then-not-is_new_name-is_width
returns-then-not-is_new_name-is_width c = let bad = rw (c.is_new_name.ensures, c.is_width.ensures, c.decimal_at-n.ensures) at c.if-not-is_new_name-is_width.true in
    bad_register c.args.text.now c.args.name.now c.args.width.now c.args.q c.requires.within bad

pub returns-then-q-ge-MOST_REGISTERS : goal.returns-then-q-ge-MOST_REGISTERS
returns-then-q-ge-MOST_REGISTERS c = let new = rw (c.is_new_name.ensures, c.is_width.ensures, c.decimal_at-n.ensures) at c.if-not-is_new_name-is_width.false in
    no_register c.args.text.now c.args.name.now c.args.width.now c.args.q c.requires.within new (omega (arith, c.if-q-ge-MOST_REGISTERS.true))

pub returns : goal.returns
returns c = let new = rw (c.is_new_name.ensures, c.is_width.ensures, c.decimal_at-n.ensures) at c.if-not-is_new_name-is_width.false in
    let width = c.width_of.ensures ∙ ap width_of c.decimal_at-n.ensures in
    one_register c.args.text.now c.args.name.now c.args.width.now c.args.q c.requires.within _ c.args.start c.width_of.result
    new (omega (arith, c.if-q-ge-MOST_REGISTERS.false)) c.with_name-registers.ensures c.requires.stands width
