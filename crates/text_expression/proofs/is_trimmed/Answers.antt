-- `text_expression::is_trimmed`: the first byte and the last.
use mathlib.Core.Path.{◌≡◌, refl, sym}
use mathlib.Core.Bool.{true}
use mathlib.Core.List.{List, [], ◌∷◌}
use Prim.Native.Nat.{ℕ}
use native.Mathlib.Omega.{arith}
use lib.ListN.{length}
use Rattle.text_expression.specs.Fields.{trimmed}
use Rattle.text_expression.proofs.is_trimmed.Goals as goal

none : (s : List ℕ) → length s ≡ 0 → trimmed s ≡ true
none [] e = refl
none (b ∷ s) e = absurd (omega arith)

pub returns-then-n-eq0 : goal.returns-then-n-eq0
returns-then-n-eq0 c = sym (none c.args.s.now c.if-n-eq0.true)

pub returns : goal.returns
returns c = rw (c.byte.ensures, c.byte-2.ensures)
