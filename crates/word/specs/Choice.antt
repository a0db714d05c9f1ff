-- The one test and the one choice that every definition of the machine, and later of the rows, goes by. Values are chosen by `pick`; the case is
-- written out (`elim`) where a branch goes on with the definition itself, and where it stands for a part of a text or a whole run.
-- Assumes nothing.
use Rattle.std.specs.Prelude.{ℕ, Bool, true, false, not, ◌==◌}

-- "if the condition isn't 0": the test of a bit, a register or a condition
abbrev pub on : ℕ → Bool
on x = not (x == 0)

-- the first value where the test holds, else the second
abbrev pub pick : {A : Type 0} → Bool → A → A → A
pick t a b = elim t [ true ↦ a | false ↦ b ]

-- a test as a bit
abbrev pub bit : Bool → ℕ
bit true = 1
bit false = 0
