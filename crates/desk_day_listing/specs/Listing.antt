-- "The day listing": from the bytes that the program reads to the bytes that it writes.
-- Assumes nothing.
use Rattle.std.specs.Prelude.{List, [], ◌∷◌, ◌++◌, true, false, ℕ, zero, suc}
use Rattle.word.specs.Choice.{on}
use Rattle.state.specs.Refusals.{reason_of}
use Rattle.machine_state.specs.State.{State, word}
use Rattle.machine_run.specs.Step.{step}
use Rattle.machine_run.specs.Run.{run}
use Rattle.characters.specs.Ascii.{ascii, tab, line_feed}
use Rattle.page.specs.Text.{octal, decimal}
use Rattle.desk_last_lines.specs.LastLines.{end_line, or_refused}
use Rattle.text_fields.specs.Fields.{lines}
use Rattle.desk_image.specs.Input.{is_word_line, loaded, first_unfit}

-- "the budget is 16"
abbrev pub budget : ℕ
budget = 16

-- "all registers are 0, except PC = 0200 and RUN = 1"
abbrev pub ready : List ℕ → State
ready memory = record { lac = 0; pc = 0o200; run = 1; enable = 0; request = 0; switches = 0; memory = memory }

-- the first line of the output
abbrev pub heading : List ℕ
heading = ascii "step\tpc\ti\tlac\trun\n"

-- "Step count decimal, address and word of the instruction, LAC after it in five octal digits, RUN after it"
unfoldable pub step_line : ℕ → ℕ → ℕ → ℕ → ℕ → List ℕ
step_line n pc i lac run =
    decimal n ++ tab ∷ octal 4 pc ++ tab ∷ octal 4 i ++ tab ∷ octal 5 lac ++ tab ∷ octal 1 run ++ line_feed ∷ []

-- a line for each step of a run: `left` steps of the budget are left, and `done` steps have been done
unfoldable pub step_lines : ℕ → ℕ → State → List ℕ
step_lines zero done s = []
step_lines (suc left) done s =
    elim (on s.run) [
      | true ↦ step_line (suc done) s.pc (word s.pc s) (step s).lac (step s).run ++ step_lines left (suc done) (step s)
      | false ↦ []
    ]

-- the listing of the run from a loaded memory
unfoldable pub run_listing : List ℕ → List ℕ
run_listing memory =
    let r = run budget (ready memory) in
    heading ++ step_lines budget 0 (ready memory) ++ end_line r.steps (reason_of r.left.run)

-- the output for an input
unfoldable pub day_listing : List ℕ → List ℕ
day_listing text = or_refused (first_unfit is_word_line 1 (lines text)) (run_listing (loaded text))
