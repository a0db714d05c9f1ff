-- The listing that document 01 prints: of (L).
-- Assumes nothing.
use mathlib.Core.Path.{◌≡◌, refl}
use Rattle.machine_reference.specs.Address.{first_address, indexed, effective, after_indexing}
use Rattle.machine_reference.specs.Reference.{operation, reference}
use Rattle.machine_operate.specs.Operate.{changed, rotated, skips, group1, group2, clears_run, operate}
use Rattle.machine_state.specs.Interrupt.{interrupt_test}
use Rattle.runs.specs.Run.{run_from}
use Rattle.machine_run.specs.Step.{execute, halts, makes_test, step_with}
use Rattle.characters.specs.Ascii.{ascii}
use Rattle.page.specs.Text.{octal, decimal_in, decimal}
use Rattle.characters.specs.Characters as bytes
use Rattle.text_fields.specs.Fields.{lines, field, has_fields}
use Rattle.text_constants.specs.Constants.{number_at}
use Rattle.desk_image.specs.Input.{is_word_line, stored, after_lines, clear, first_unfit}
use Rattle.desk_last_lines.specs.LastLines.{end_line}
use Rattle.desk_day_listing.specs.Listing.{step_line, step_lines, run_listing, day_listing}

pub day : day_listing (ascii "0200\t7300\n0201\t1204\n0202\t7001\n0203\t7402\n0204\t7777\n")
    ≡ ascii "step\tpc\ti\tlac\trun\n1\t0200\t7300\t00000\t1\n2\t0201\t1204\t07777\t1\n3\t0202\t7001\t10000\t1\n4\t0203\t7402\t10000\t0\nend\t4\thalted\n"
unfolding first_address indexed effective after_indexing operation reference changed rotated skips group1 group2 clears_run operate interrupt_test execute halts makes_test step_with run_from octal decimal_in decimal bytes.run number_at lines field has_fields is_word_line stored after_lines clear first_unfit step_line step_lines end_line run_listing day_listing
day = refl
