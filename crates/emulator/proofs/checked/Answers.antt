-- `emulator::checked` hands over the widths and the values of the registers.
use mathlib.Core.Path.{sym, subst}
use mathlib.Core.List.{List}
use Prim.Native.Nat.{ℕ, ◌≤◌}
use lib.ListN.{get_or}
use Rattle.word.specs.Word.{widest}
use Rattle.emulator.proofs.Starts.{widths_small}
use Rattle.emulator.proofs.checked.Goals as goal

pub check_state-requires : goal.check_state-requires
check_state-requires c = subst (λ (l : List ℕ). (k : ℕ) → get_or l k 0 ≤ widest) (sym c.widths-widths.ensures) widths_small

pub returns : goal.returns
returns c = rw (c.widths-widths.ensures, c.values_of-values.ensures) at c.check_state.ensures
