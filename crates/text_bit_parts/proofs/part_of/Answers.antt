-- `text_bit_parts::part_of` is its definition, by its test.
use Rattle.text_bit_parts.specs.References.{part_of}
use Rattle.text_bit_parts.proofs.part_of.Goals as goal

pub returns-then-first-last : goal.returns-then-first-last
unfolding part_of
returns-then-first-last c = rw (c.if-first-last.true, part_of)

pub returns-else-first-last : goal.returns-else-first-last
unfolding part_of
returns-else-first-last c = rw (c.if-first-last.false, part_of)
