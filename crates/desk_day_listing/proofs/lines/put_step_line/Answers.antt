-- `desk_day_listing::lines::put_step_line`: the fields one after the other.
use Rattle.std.proofs.Common.{rules, arith, refl, append_assoc, length-append}
use Rattle.desk_day_listing.specs.Listing.{step_line}
use Rattle.desk_day_listing.proofs.Sizes.{field_sizes}
use Rattle.desk_day_listing.proofs.lines.put_step_line.Goals as goal

pub put_decimal-requires : goal.put_decimal-requires
put_decimal-requires c =
    let sizes = field_sizes c.args.n c.args.pc c.args.i c.args.lac c.args.run c.requires.two_digits in
    (search rules, omega (arith, sizes, c.requires.room))

pub put_field-requires : goal.put_field-requires
put_field-requires c =
    let sizes = field_sizes c.args.n c.args.pc c.args.i c.args.lac c.args.run c.requires.two_digits in
    (search rules, simp (c.put_decimal.ensures, length-append) (omega (arith, sizes, c.requires.room)))

pub put_field-requires-2 : goal.put_field-requires-2
put_field-requires-2 c =
    let sizes = field_sizes c.args.n c.args.pc c.args.i c.args.lac c.args.run c.requires.two_digits in
    (search rules, simp (c.put_field.ensures, c.put_decimal.ensures, length-append) (omega (arith, sizes, c.requires.room)))

pub put_field-requires-3 : goal.put_field-requires-3
put_field-requires-3 c =
    let sizes = field_sizes c.args.n c.args.pc c.args.i c.args.lac c.args.run c.requires.two_digits in
    (search rules, simp (c.put_field-2.ensures, c.put_field.ensures, c.put_decimal.ensures, length-append) (omega (arith, sizes, c.requires.room)))

pub put_field-requires-4 : goal.put_field-requires-4
put_field-requires-4 c =
    let sizes = field_sizes c.args.n c.args.pc c.args.i c.args.lac c.args.run c.requires.two_digits in
    (search rules, simp (c.put_field-3.ensures, c.put_field-2.ensures, c.put_field.ensures, c.put_decimal.ensures, length-append) (omega (arith, sizes, c.requires.room)))

pub put_byte-requires : goal.put_byte-requires
put_byte-requires c =
    let sizes = field_sizes c.args.n c.args.pc c.args.i c.args.lac c.args.run c.requires.two_digits in
    (search rules, simp (c.put_field-4.ensures, c.put_field-3.ensures, c.put_field-2.ensures, c.put_field.ensures, c.put_decimal.ensures, length-append) (omega (arith, sizes, c.requires.room)))

pub returns : goal.returns
unfolding step_line
returns c =
    simp (c.put_byte.ensures, c.put_field-4.ensures, c.put_field-3.ensures, c.put_field-2.ensures, c.put_field.ensures, c.put_decimal.ensures, append_assoc) refl
