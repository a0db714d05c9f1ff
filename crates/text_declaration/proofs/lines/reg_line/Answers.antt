-- `text_declaration::lines::reg_line`: the name stands behind `reg` and a TAB.
use mathlib.Core.Path.{ap, ◌∙◌}
use mathlib.Core.Bool.{Bool, ◌&&◌}
use Prim.Native.Nat.{◌+◌}
use native.Mathlib.Omega.{arith}
use lib.Dec.{eqb}
use Rattle.text_fields.specs.Fields.{has_fields}
use Rattle.laws.proofs.Joined.{and_left}
use Rattle.text_declaration.specs.declared.faults.Fault.TheVariants.{Line}
use Rattle.text_declaration.specs.Lines.{reg_word, reg_line, add_register}
use Rattle.text_declaration.proofs.Fields.{stands}
use Rattle.text_declaration.proofs.Declarations.{plain_as, plain_refused, unbegun_is, reg_fields, reg_malformed}
use Rattle.text_declaration.proofs.lines.reg_line.Goals as goal

pub returns-then-not-has_fields-q : goal.returns-then-not-has_fields-q
returns-then-not-has_fields-q c = let malformed = rw c.has_fields.ensures at c.if-not-has_fields-q.true in
    plain_refused c.args.text.now (λ p. reg_line p c.args.line.now) c.args.q Line
    (λ rs counted. reg_malformed _ c.args.line.now (ap (λ (b : Bool). has_fields 3 c.args.line.now && b) (unbegun_is c.args.text.now c.args.q rs counted) ∙ malformed))

pub add_register-requires-clause-stands : goal.add_register-requires-clause-stands
add_register-requires-clause-stands c = let fields = and_left (has_fields 3 c.args.line.now) (eqb (c.args.q.labels.count + c.args.q.rows) 0) (rw c.has_fields.ensures at c.if-not-has_fields-q.false) in
    (stands c.args.text.now c.args.line.now reg_word 3 c.args.place (omega arith) fields c.requires.is_reg c.requires.stands _ c.field_of-name.ensures c.requires.fits).0

pub add_register-requires-clause-fits : goal.add_register-requires-clause-fits
add_register-requires-clause-fits c = let fields = and_left (has_fields 3 c.args.line.now) (eqb (c.args.q.labels.count + c.args.q.rows) 0) (rw c.has_fields.ensures at c.if-not-has_fields-q.false) in
    (stands c.args.text.now c.args.line.now reg_word 3 c.args.place (omega arith) fields c.requires.is_reg c.requires.stands _ c.field_of-name.ensures c.requires.fits).1

pub returns : goal.returns
returns c = let fields = rw c.has_fields.ensures at c.if-not-has_fields-q.false in
    plain_as c.args.text.now (λ p. reg_line p c.args.line.now) (λ p. add_register p _ _) c.args.q c.add_register.result
    (λ rs counted. reg_fields _ c.args.line.now (ap (λ (b : Bool). has_fields 3 c.args.line.now && b) (unbegun_is c.args.text.now c.args.q rs counted) ∙ fields) ∙ rw (c.field_of-name.ensures, c.field_of.ensures)) c.add_register.ensures
