-- `desk_explanation::devices_in`: the places behind the machine's.
use mathlib.Core.Path.{◌≡◌}
use mathlib.Core.List.{List}
use Prim.Native.Nat.{ℕ}
use lib.ListN.{get_or}
use lib.Seq.{get_or-drop}
use Rattle.desk_explanation.specs.Explanation.{devices_in}
use Rattle.desk_explanation.proofs.devices_in.Goals as goal

in_place : (l : List ℕ)
    → record { key = get_or l 6 0; keyboard = get_or l 7 0; printer = get_or l 8 0; print = get_or l 9 0; mark = get_or l 10 0 } ≡ devices_in l
in_place l = rw (get_or-drop 6 l 0 0, get_or-drop 6 l 1 0, get_or-drop 6 l 2 0, get_or-drop 6 l 3 0, get_or-drop 6 l 4 0)

pub returns : goal.returns
returns c = in_place c.args.rs
