-- `desk_entry::input_entry`: the length first, then the bytes.
use mathlib.Core.Path.{sym, ◌∙◌}
use mathlib.Core.Bool.{true, false}
use Rattle.desk_entry.specs.Lines.{input_entry}
use Rattle.desk_entry.proofs.Octets.{by_bytes, by_length}
use Rattle.desk_entry.proofs.input_entry.Goals as goal

pub returns-then-are_octets : goal.returns-then-are_octets
unfolding input_entry
returns-then-are_octets c = rw (by_bytes c.args.value.now true c.if-n-value.true (sym c.are_octets.ensures ∙ c.if-are_octets.true), input_entry)

pub returns-else-are_octets : goal.returns-else-are_octets
unfolding input_entry
returns-else-are_octets c = rw (by_bytes c.args.value.now false c.if-n-value.true (sym c.are_octets.ensures ∙ c.if-are_octets.false), input_entry)

pub returns-else-n-value : goal.returns-else-n-value
unfolding input_entry
returns-else-n-value c = rw (by_length c.args.value.now c.if-n-value.false, input_entry)
