-- `text_names::place_of`: entry by entry.
use mathlib.Core.Path.{◌≡◌}
use Prim.Native.Nat.{◌+◌, ◌-◌}
use Rattle.characters.specs.Named.{find}
use Rattle.text_names.specs.Dictionaries.{entries, entries_from}
use Rattle.text_names.proofs.place_of.Given as goal

abbrev pub invariant-loop-i : goal.invariant-loop-i
invariant-loop-i l = (find l.name (entries l.text l.d) ≡ l.i + find l.name (entries_from l.text l.d l.i (l.d.count - l.i)))
