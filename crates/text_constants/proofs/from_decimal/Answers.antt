-- `text_constants::from_decimal` is its definition.
use native.Mathlib.Omega.{arith}
use Rattle.text_constants.proofs.Shortest.{shortest_le}
use Rattle.text_constants.proofs.Readings.{decimal_as}
use Rattle.text_constants.proofs.from_decimal.Goals as goal

pub overflow_add-result : goal.overflow_add-result
overflow_add-result c = omega (arith, c.shortest_form.ensures, shortest_le 14 1 c.args.d.value)

pub overflow_cast-result : goal.overflow_cast-result
overflow_cast-result c = omega (arith, c.shortest_form.ensures, shortest_le 14 1 c.args.d.value)

pub returns : goal.returns
returns c = decimal_as c.args.d.value _ c.args.d.place (omega (arith, c.shortest_form.ensures))
