-- `characters::registers::place_in`: the place that the library finds.
use mathlib.Core.Path.{◌∙◌}
use Rattle.std.proofs.Common.{rules}
use Rattle.std.proofs.lemmas.Iterator.{YieldsList-from_slice}
use Rattle.std.proofs.lemmas.Iterator.Search.{position_from_yields_List}
use Rattle.characters.specs.Table.{named}
use Rattle.characters.proofs.Searches.{is_it, found_is}
use Rattle.characters.proofs.registers.place_in.Goals as goal

pub returns : goal.returns
returns c = position_from_yields_List (is_it named c.args.name.now) _ _ c.position.result c.position.ensures.ran
    (YieldsList-from_slice _ c.iter.ensures.rest) (λ x b q k. search rules)
    ∙ found_is named c.args.name.now c.args.table.now
