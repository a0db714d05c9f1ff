-- `desk_entry::register_entry`: digits of the register's own number, and a value of no more than its bits.
use native.Mathlib.Omega.{arith}
use mathlib.Core.Path.{ap, ◌∙◌}
use Prim.Native.Nat.{◌^◌, ◌≤◌, ◌<◌}
use lib.Pow.{pow_mono}
use borrow.Author.Tests.{ltb-true}
use Rattle.machine_state.specs.State.{lac_bits}
use Rattle.machine_state.specs.Registers.{digits_of}
use Rattle.desk_registers.proofs.Widths.{width_le, width_at_lem}
use Rattle.characters.specs.declared.Class.TheVariants.{Octal}
use Rattle.desk_entry.specs.Lines.{register_entry}
use Rattle.desk_image.proofs.Digits.{digits_size}
use Rattle.desk_entry.proofs.register_entry.Goals as goal

pub digits_of-n-requires : goal.digits_of-n-requires
digits_of-n-requires c = omega (arith, (width_at_lem c.register_at-register.result c.args.place c.register_at-register.ensures), width_le c.args.place)

pub digits_value-v-requires : goal.digits_value-v-requires
digits_value-v-requires c = let t = rw c.is_digits.ensures at c.if-is_digits.true in
    omega (arith, width_le c.args.place, (c.digits_of-n.ensures ∙ ap digits_of (width_at_lem c.register_at-register.result c.args.place c.register_at-register.ensures)), digits_size Octal c.digits_of-n.result c.args.value.now t)

pub is_narrow-requires : goal.is_narrow-requires
is_narrow-requires c = omega (arith, (width_at_lem c.register_at-register.result c.args.place c.register_at-register.ensures), width_le c.args.place)

pub overflow_cast-result : goal.overflow_cast-result
overflow_cast-result c = let narrow : c.digits_value-v.result < 2 ^ c.register_at-register.result.width = ltb-true _ _ (rw c.is_narrow.ensures at c.if-is_narrow.true) in
    let most : 2 ^ c.register_at-register.result.width ≤ 2 ^ lac_bits = pow_mono {i = c.register_at-register.result.width} {j = lac_bits} (omega (arith, (width_at_lem c.register_at-register.result c.args.place c.register_at-register.ensures), width_le c.args.place)) in
    omega arith

pub returns-then-is_narrow : goal.returns-then-is_narrow
unfolding register_entry
returns-then-is_narrow c = let t = rw (c.is_digits.ensures, (c.digits_of-n.ensures ∙ ap digits_of (width_at_lem c.register_at-register.result c.args.place c.register_at-register.ensures))) at c.if-is_digits.true in
    let value = rw (c.digits_of-n.ensures ∙ ap digits_of (width_at_lem c.register_at-register.result c.args.place c.register_at-register.ensures)) at c.digits_value-v.ensures in
    let narrow = rw (c.is_narrow.ensures, value, (width_at_lem c.register_at-register.result c.args.place c.register_at-register.ensures)) at c.if-is_narrow.true in
    rw (t, narrow, value, register_entry)

pub returns-else-is_narrow : goal.returns-else-is_narrow
unfolding register_entry
returns-else-is_narrow c = let t = rw (c.is_digits.ensures, (c.digits_of-n.ensures ∙ ap digits_of (width_at_lem c.register_at-register.result c.args.place c.register_at-register.ensures))) at c.if-is_digits.true in
    let value = rw (c.digits_of-n.ensures ∙ ap digits_of (width_at_lem c.register_at-register.result c.args.place c.register_at-register.ensures)) at c.digits_value-v.ensures in
    let wide = rw (c.is_narrow.ensures, value, (width_at_lem c.register_at-register.result c.args.place c.register_at-register.ensures)) at c.if-is_narrow.false in
    rw (t, wide, register_entry)

pub returns-else-is_digits : goal.returns-else-is_digits
unfolding register_entry
returns-else-is_digits c = let t = rw (c.is_digits.ensures, (c.digits_of-n.ensures ∙ ap digits_of (width_at_lem c.register_at-register.result c.args.place c.register_at-register.ensures))) at c.if-is_digits.false in
    rw (t, register_entry)
