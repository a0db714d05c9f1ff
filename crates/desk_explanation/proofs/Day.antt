-- The explanation of (L); and that an image alone is run as for its day listing, so that its explanation begins with the listing's last line.
-- Assumes nothing.
use mathlib.Core.Path.{◌≡◌, refl, ap}
use mathlib.Core.Bool.{false}
use mathlib.Core.List.{List, [], ◌++◌}
use Prim.Native.Nat.{ℕ, ◌-◌}
use lib.ListN.{length, drop}
use Rattle.state.specs.Refusals.{reason_of}
use Rattle.machine_state.specs.Interrupt.{interrupt_test}
use Rattle.devices.specs.declared.Devices.{Devices}
use Rattle.machine_state.specs.declared.Machine.{Machine}
use Rattle.machine_state.specs.State.{start, registers}
use Rattle.machine_state.specs.Registers.{machine_registers, machine_of, values}
use Rattle.machine_reference.specs.Address.{first_address, indexed, effective, after_indexing}
use Rattle.machine_reference.specs.Reference.{operation, reference}
use Rattle.machine_operate.specs.Operate.{changed, rotated, skips, group1, group2, clears_run, operate}
use Rattle.runs.specs.Run.{run_from}
use Rattle.machine_run.specs.Step.{execute, halts, makes_test, step_with}
use Rattle.machine_run.specs.Run as steps
use Rattle.characters.specs.Ascii.{ascii}
use Rattle.page.specs.Text.{octal, decimal_in, decimal}
use Rattle.desk_day_listing.specs.Listing as listing
use Rattle.desk_last_lines.specs.LastLines.{end_line}
use Rattle.desk_image.specs.Input.{after_lines, clear, first_unfit}
use Rattle.characters.specs.Characters as bytes
use Rattle.characters.specs.Characters.{same}
use Rattle.text_constants.specs.Constants.{number_at}
use Rattle.text_fields.specs.Fields.{lines, field, has_fields}
use Rattle.characters.specs.Named.{find}
use Rattle.text_declaration.specs.Rows.{Description}
use Rattle.rows_cycles.specs.Cycle.{cycle_from}
use Rattle.rows_cycles.specs.Run as cycles
use Rattle.shipped_rows.specs.Variant.{plain}
use Rattle.shipped_rows.specs.Text.{shipped_text}
use Rattle.shipped_rows.proofs.Tree.{tree}
use Rattle.shipped_rows.proofs.Accepted.{shipped_is}
use Rattle.desk_entry.specs.Lines.{word_entry, register_entry, budget_entry, said, entry}
use Rattle.desk_inquiry.specs.Input.{ready, entered, asked}
use Rattle.text_targets.specs.Targets.{passes}
use Rattle.desk_mnemonics.specs.Mnemonics.{names, names_of, spaced, mnemonic}
use Rattle.desk_last_step.specs.LastStep.{last_line, word_line, change_lines, last_step}
use Rattle.desk_run_lines.specs.Registers.{register_lines, working_values}
use Rattle.desk_run_lines.specs.Rows.{row_texts, at_line, label_line, row_line, row_lines}
use Rattle.desk_explanation.specs.Explanation.{places_of, told, explained, devices_in, explanation}

-- what no line gives is as for the day listing: the state of each memory, and the budget
pub starts_as_listed : (memory : List ℕ) → start (machine_of ready.registers) memory ≡ listing.ready memory
unfolding ready
starts_as_listed memory = refl

pub budget_as_listed : ready.budget ≡ listing.budget
unfolding ready
budget_as_listed = refl

-- what is said of a start by the cycles of a description's rows; by those of the shipped one's tree
abbrev told_by : Machine → Devices → List ℕ → ℕ → Description → List ℕ
told_by m c memory budget t =
    let r = steps.run budget (start m memory) in
    let before = (steps.run (r.steps - 1) (start m memory)).left in
    let last = (cycles.run t budget (record { registers = places_of false m c; memory = memory })).left in
    end_line r.steps (reason_of r.left.run)
    ++ []
    ++ last_step false r.steps before.pc before.memory r.left.memory
    ++ register_lines machine_registers (values (registers r.left))
    ++ register_lines (drop (length machine_registers) t.registers) (working_values plain last.state.registers)
    ++ row_lines (shipped_text plain) last.acted

by_tree : (m : Machine) (c : Devices) (memory : List ℕ) (budget : ℕ) (input : List ℕ) → explained false m c memory budget input ≡ told_by m c memory budget (tree plain)
unfolding told explained
by_tree m c memory budget input = ap (told_by m c memory budget) (shipped_is plain)

-- (L)
abbrev input : List ℕ
input = ascii "0200\t7300\n0201\t1204\n0202\t7001\n0203\t7402\n0204\t7777\n"

pub day : explanation input
    ≡ ascii "end\t4\thalted\nlast\t0203\t7402\tHLT\nLAC\t10000\nPC\t0204\nRUN\t0\nINTERRUPT.ENABLE\t0\nINTERRUPT.REQUEST\t0\nSWITCHES\t0000\n"
    ++ ascii "i\t7402\nlast.pc\t0203\neadd\t0204\nskip\t0\n"
    ++ ascii "1\tdo\t1\ti\tM[PC]\n2\tdo\t1\tlast.pc\tPC\n3\tdo\t1\tPC\tPC + 1\n5\tgo\ti<0:2> Eql #7\topr\nat\topr\t35\n35\tgo\ti<3>\tgroup.2\nat\tgroup.2\t48\n"
    ++ ascii "49\tdo\t1\tskip\t0\n57\tdo\ti<10>\tRUN\t0\n58\tgo\ti<10>\trestart\nat\trestart\t66\n"
unfolding interrupt_test makes_test halts clears_run first_address indexed effective after_indexing operation reference changed rotated skips group1 group2 operate execute step_with run_from octal decimal_in decimal end_line clear bytes.run same number_at lines field has_fields find cycle_from shipped_text word_entry register_entry budget_entry said entry ready entered after_lines first_unfit names names_of spaced mnemonic last_line word_line change_lines last_step passes row_texts at_line label_line row_line row_lines explanation
day = let q = asked input in by_tree (machine_of q.registers) (devices_in q.registers) q.memory q.budget q.input
