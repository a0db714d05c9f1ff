-- The last line of a run, and the one line of a refused text.
-- Assumes nothing.
use Rattle.std.specs.Prelude.{List, [], ◌∷◌, ◌++◌, ℕ, Option, Some, None}
use Rattle.state.specs.declared.Reason.{Reason}
use Rattle.state.specs.declared.Reason.TheVariants.{Halted, Spent, Paper}
use Rattle.characters.specs.Ascii.{ascii, tab, line_feed}
use Rattle.page.specs.Text.{decimal}

-- "`halted` if RUN is 0 at the end, else `spent`"; with devices "`halted` if RUN is 0, else `paper`, else `spent`"
abbrev pub reason_word : Reason → List ℕ
reason_word Halted = ascii "halted"
reason_word Spent = ascii "spent"
reason_word Paper = ascii "paper"

-- "last, the steps done and the reason"
unfoldable pub end_line : ℕ → Reason → List ℕ
end_line steps reason = ascii "end\t" ++ decimal steps ++ tab ∷ reason_word reason ++ line_feed ∷ []

-- "the output is only `refused`, TAB, the first such line's number"
unfoldable pub refused_line : ℕ → List ℕ
refused_line n = ascii "refused\t" ++ decimal n ++ line_feed ∷ []

-- "If any line is unfit": by the first such line's number, if there is one, and the output where none is
abbrev pub or_refused : Option ℕ → List ℕ → List ℕ
or_refused None output = output
or_refused (Some n) output = refused_line n
