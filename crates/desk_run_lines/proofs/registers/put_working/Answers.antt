-- `desk_run_lines::registers::put_working`: the lines one after the other.
use Rattle.std.proofs.Common.{rules, arith, refl, ◌≡◌, length, append_assoc, append-nil}
use Rattle.text_limits.specs.Limits.{most_registers}
use Rattle.characters.specs.Ascii.{ascii}
use Rattle.page.specs.Text.{octal}
use Rattle.desk_run_lines.specs.Registers.{variant_of}
use Rattle.desk_run_lines.proofs.RegisterLines.{register_end, registers_within, working_registers_lem, working_values_lem}
use Rattle.desk_run_lines.proofs.registers.put_working.Goals as goal

pub put_register-requires-2 : goal.put_register-requires-2
put_register-requires-2 c = omega (arith, register_end c.args.draft.now (ascii "i") 4 _ c.put_register.ensures, c.requires)

pub put_register-requires-3 : goal.put_register-requires-3
put_register-requires-3 c =
    let one = register_end c.args.draft.now (ascii "i") 4 _ c.put_register.ensures in
    omega (arith, one, register_end c.put_register.new.draft (ascii "last.pc") 4 _ c.put_register-2.ensures, c.requires)

pub put_register-requires-4 : goal.put_register-requires-4
put_register-requires-4 c =
    let one = register_end c.args.draft.now (ascii "i") 4 _ c.put_register.ensures in
    let two = register_end c.put_register.new.draft (ascii "last.pc") 4 _ c.put_register-2.ensures in
    omega (arith, one, two, register_end c.put_register-2.new.draft (ascii "eadd") 4 _ c.put_register-3.ensures, c.requires)

pub returns : goal.returns
unfolding octal
returns c =
    let v = variant_of c.args.devices in
    let all : length c.args.values ≡ most_registers = search rules in
    rw (working_registers_lem v, working_values_lem v _ c.args.values c.count-first.ensures (omega (arith, c.count-first.ensures, registers_within c.args.devices, all)))
    (simp (c.put_register-4.ensures, c.put_register-3.ensures, c.put_register-2.ensures, c.put_register.ensures, append_assoc, append-nil) refl)
