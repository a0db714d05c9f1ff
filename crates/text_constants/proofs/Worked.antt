-- The constants worked out by hand, read together by the definition.
-- Assumes nothing.
use mathlib.Core.Path.{◌≡◌, refl}
use mathlib.Core.List.{map}
use Rattle.characters.specs.Characters.{run, run_end}
use Rattle.text_constants.specs.Constants.{number_at, shortest_from, decimal_at, marked_at, of_decimal, constant_at}
use Rattle.text_constants.specs.Worked.{Example, worked}

pub worked_read : map (λ (e : Example). constant_at e.line e.start) worked ≡ map (λ (e : Example). e.read) worked
unfolding run run_end number_at shortest_from decimal_at marked_at of_decimal constant_at worked
worked_read = refl
