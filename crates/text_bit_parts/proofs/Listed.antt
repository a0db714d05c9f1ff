-- A register's width is the number of its entry in the dictionary.
-- Assumes nothing.
use mathlib.Core.Path.{◌≡◌, ap, ◌∙◌}
use mathlib.Core.List.{List, []}
use Prim.Native.Nat.{ℕ, ◌<◌}
use native.Mathlib.Nat.{zero-add}
use Rattle.characters.specs.Named.{Named}
use Rattle.text_names.specs.Dictionaries.{entries, number_at}
use Rattle.text_names.specs.declared.Dictionary.{Dictionary}
use Rattle.text_names.proofs.Entries.{entry_from}
use Rattle.text_bit_parts.specs.References.{width_in}

module _ (text : List ℕ) (d : Dictionary) where
  pub width_is : (r : ℕ) → r < d.count → width_in (entries text d) r ≡ number_at d r
  width_is r h = ap (λ (e : Named). e.number) (entry_from text d d.count 0 r (record { name = []; number = 0 }) h) ∙ ap (number_at d) (zero-add r)
