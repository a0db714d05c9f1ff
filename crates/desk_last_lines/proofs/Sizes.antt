-- A run's last line by its parts, and how many bytes it has.
-- Assumes nothing.
use mathlib.Core.Path.{◌≡◌}
use mathlib.Core.List.{[], ◌∷◌, ◌++◌, append_assoc}
use Prim.Native.Nat.{ℕ, ◌+◌, ◌≤◌}
use native.Mathlib.Omega.{arith}
use lib.ListN.{length, length-append}
use Rattle.state.specs.declared.Reason.{Reason}
use Rattle.state.specs.declared.Reason.TheVariants.{Halted, Spent, Paper}
use Rattle.characters.specs.Ascii.{ascii, tab, line_feed}
use Rattle.page.specs.Text.{decimal}
use Rattle.desk_last_lines.specs.LastLines.{reason_word, end_line}

pub end_line_lem : (steps : ℕ) (why : Reason) → end_line steps why ≡ ascii "end\t" ++ decimal steps ++ (tab ∷ reason_word why ++ line_feed ∷ [])
unfolding end_line
end_line_lem steps why = append_assoc (ascii "end\t" ++ decimal steps) (tab ∷ reason_word why) (line_feed ∷ [])

-- beside the steps' digits at most 12 bytes: `halted` is the longer word
pub end_size : (steps : ℕ) (why : Reason) → length (end_line steps why) ≤ 12 + length (decimal steps)
end_size steps Halted = rw (end_line_lem steps Halted) (simp length-append (omega arith))
end_size steps Spent = rw (end_line_lem steps Spent) (simp length-append (omega arith))
end_size steps Paper = rw (end_line_lem steps Paper) (simp length-append (omega arith))
