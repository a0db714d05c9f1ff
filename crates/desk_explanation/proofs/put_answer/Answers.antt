-- `desk_explanation::put_answer`: one part after the other; their room is counted. The lines of the last step end within 553 places, those of the registers within 702 and 739.
use Rattle.std.proofs.Common.{rules, arith, refl, ◌≡◌, ◌^◌, ◌≤◌, ◌<◌, length, take, length-append, length-take}
use Rattle.text_limits.specs.Limits.{most_registers}
use Rattle.page.proofs.Numbers.{decimal_length}
use Rattle.page.proofs.Writing.{page_of}
use Rattle.state.specs.Limits.{row_places}
use Rattle.desk_run_lines.specs.Sizes.{page_bytes}
use Rattle.desk_explanation.specs.Explanation.{told}
use Rattle.desk_explanation.proofs.Sizes.{grown, parts_size}
use Rattle.desk_explanation.proofs.put_answer.Goals as goal

pub put_end_line-requires : goal.put_end_line-requires
put_end_line-requires c =
    let steps : c.args.e.steps < 10 ^ 20 = let g = c.well_formed in search rules in
    (search rules, simp c.new-draft.ensures (omega (arith, decimal_length 19 c.args.e.steps steps)))

pub put_exchange-requires : goal.put_exchange-requires
put_exchange-requires c =
    let steps : c.args.e.steps < 10 ^ 20 = let g = c.well_formed in search rules in
    let read : c.args.e.read < 10 ^ 20 = let g = c.well_formed in search rules in
    let all : length c.args.places ≡ most_registers = let g = c.well_formed in search rules in
    let parts = parts_size c.args.devices c.args.e c.args.output.now c.args.pc c.args.before.now c.args.memory.now c.args.places steps read c.requires.printed_within c.requires.last_step.few all in
    simp (c.put_end_line.ensures, c.new-draft.ensures, length-append) (omega (arith, parts))

pub put_last_step-requires : goal.put_last_step-requires
put_last_step-requires c =
    let steps : c.args.e.steps < 10 ^ 20 = let g = c.well_formed in search rules in
    let read : c.args.e.read < 10 ^ 20 = let g = c.well_formed in search rules in
    let all : length c.args.places ≡ most_registers = let g = c.well_formed in search rules in
    let parts = parts_size c.args.devices c.args.e c.args.output.now c.args.pc c.args.before.now c.args.memory.now c.args.places steps read c.requires.printed_within c.requires.last_step.few all in
    (search rules, (simp (c.put_exchange.ensures, c.put_end_line.ensures, c.new-draft.ensures, length-append) (omega (arith, parts, c.requires.last_step.few)), (c.requires.last_step.inside, c.requires.last_step.whole)))

pub put_registers-requires : goal.put_registers-requires
put_registers-requires c =
    let steps : c.args.e.steps < 10 ^ 20 = let g = c.well_formed in search rules in
    let read : c.args.e.read < 10 ^ 20 = let g = c.well_formed in search rules in
    let all : length c.args.places ≡ most_registers = let g = c.well_formed in search rules in
    let parts = parts_size c.args.devices c.args.e c.args.output.now c.args.pc c.args.before.now c.args.memory.now c.args.places steps read c.requires.printed_within c.requires.last_step.few all in
    simp (c.put_last_step.ensures, c.put_exchange.ensures, c.put_end_line.ensures, c.new-draft.ensures, length-append) (omega (arith, parts))

pub put_working-requires : goal.put_working-requires
put_working-requires c =
    let steps : c.args.e.steps < 10 ^ 20 = let g = c.well_formed in search rules in
    let read : c.args.e.read < 10 ^ 20 = let g = c.well_formed in search rules in
    let all : length c.args.places ≡ most_registers = let g = c.well_formed in search rules in
    let parts = parts_size c.args.devices c.args.e c.args.output.now c.args.pc c.args.before.now c.args.memory.now c.args.places steps read c.requires.printed_within c.requires.last_step.few all in
    let step : length c.put_last_step.new.draft ≤ 553 = simp (c.put_last_step.ensures, c.put_exchange.ensures, c.put_end_line.ensures, c.new-draft.ensures, length-append) (omega (arith, parts)) in
    let registers : length c.put_registers.new.draft ≤ 702 = grown _ _ parts.registers step c.put_registers.ensures in
    omega (arith, registers)

pub put_rows-requires : goal.put_rows-requires
put_rows-requires c =
    let steps : c.args.e.steps < 10 ^ 20 = let g = c.well_formed in search rules in
    let read : c.args.e.read < 10 ^ 20 = let g = c.well_formed in search rules in
    let all : length c.args.places ≡ most_registers = let g = c.well_formed in search rules in
    let parts = parts_size c.args.devices c.args.e c.args.output.now c.args.pc c.args.before.now c.args.memory.now c.args.places steps read c.requires.printed_within c.requires.last_step.few all in
    let step : length c.put_last_step.new.draft ≤ 553 = simp (c.put_last_step.ensures, c.put_exchange.ensures, c.put_end_line.ensures, c.new-draft.ensures, length-append) (omega (arith, parts)) in
    let registers : length c.put_registers.new.draft ≤ 702 = grown _ _ parts.registers step c.put_registers.ensures in
    let working : length c.put_working.new.draft ≤ 739 = grown _ _ parts.working registers c.put_working.ensures in
    let listed : length (take c.args.n c.args.list.now) ≤ row_places = omega (arith, length-take c.args.n c.args.list.now, c.requires.listed_within) in
    omega (arith, working, listed)

pub copy_to-requires : goal.copy_to-requires
copy_to-requires c =
    let steps : c.args.e.steps < 10 ^ 20 = let g = c.well_formed in search rules in
    let read : c.args.e.read < 10 ^ 20 = let g = c.well_formed in search rules in
    let all : length c.args.places ≡ most_registers = let g = c.well_formed in search rules in
    let parts = parts_size c.args.devices c.args.e c.args.output.now c.args.pc c.args.before.now c.args.memory.now c.args.places steps read c.requires.printed_within c.requires.last_step.few all in
    let step : length c.put_last_step.new.draft ≤ 553 = simp (c.put_last_step.ensures, c.put_exchange.ensures, c.put_end_line.ensures, c.new-draft.ensures, length-append) (omega (arith, parts)) in
    let registers : length c.put_registers.new.draft ≤ 702 = grown _ _ parts.registers step c.put_registers.ensures in
    let working : length c.put_working.new.draft ≤ 739 = grown _ _ parts.working registers c.put_working.ensures in
    let listed : length (take c.args.n c.args.list.now) ≤ row_places = omega (arith, length-take c.args.n c.args.list.now, c.requires.listed_within) in
    let full : length c.args.page.now ≡ page_bytes = search rules in
    (search rules, omega (arith, working, listed, c.put_rows.ensures.room))

pub returns : goal.returns
unfolding told
returns c = page_of _ c.copy_to.ensures (simp (c.put_rows.ensures.lines, c.put_working.ensures, c.put_registers.ensures, c.put_last_step.ensures, c.put_exchange.ensures, c.put_end_line.ensures, c.new-draft.ensures) refl)
