-- `desk_run_lines::registers::put_registers`: the lines of the registers read have been written.
use Rattle.std.proofs.Common.{arith, ap, ◌∙◌, ◌<◌, take, length, length-take-le}
use Rattle.characters.specs.Named.{Named}
use Rattle.machine_state.specs.Registers.{digits_of}
use Rattle.characters.specs.Table.{nameless}
use Rattle.desk_registers.specs.Registers.{desk_registers}
use Rattle.page.proofs.Writing.{drafted_more, drafted_size}
use Rattle.desk_run_lines.specs.Registers.{register_lines}
use Rattle.desk_run_lines.proofs.RegisterLines.{lines_size_lem, lines_room, lines_more, registers_within}
use Rattle.desk_run_lines.proofs.registers.put_registers.Goals as goal

pub put_register-requires : goal.put_register-requires
put_register-requires c =
    let k = c.loop-k.k in
    let inside : k < length desk_registers = omega (arith, c.loop-k-test.true, c.count-n.ensures, registers_within c.args.devices) in
    let valued : k < length c.values_of-all.result = omega (arith, ap length c.values_of-all.ensures, inside) in
    let size = lines_size_lem (take k desk_registers) (take k c.values_of-all.result)
    (omega (arith, length-take-le k desk_registers (omega (arith, inside)), length-take-le k c.values_of-all.result (omega (arith, valued)))) in
    let written = drafted_size c.args.draft.now (register_lines (take k desk_registers) (take k c.values_of-all.result)) c.loop-k.invariant in
    let name = ap length (ap (λ (r : Named). r.name) c.register_at-register.ensures) in
    let digits = c.digits_of-digits.ensures ∙ ap (λ (r : Named). digits_of r.number) c.register_at-register.ensures in
    omega (arith, lines_room desk_registers nameless k inside, size, written, name, digits, c.requires)

pub loop-k-preserved : goal.loop-k-preserved
loop-k-preserved c =
    let k = c.loop-k.k in
    let inside : k < length desk_registers = omega (arith, c.loop-k-test.true, c.count-n.ensures, registers_within c.args.devices) in
    let valued : k < length c.values_of-all.result = omega (arith, ap length c.values_of-all.ensures, inside) in
    let name = ap (λ (r : Named). r.name) c.register_at-register.ensures in
    let digits = c.digits_of-digits.ensures ∙ ap (λ (r : Named). digits_of r.number) c.register_at-register.ensures in
    drafted_more _ _ _ (lines_more desk_registers c.values_of-all.result nameless k inside valued) c.loop-k.invariant
    (rw (name, digits) at c.put_register.ensures)
