-- `text_description::reader::read_lines`: line by line, with the rows behind what was read so far.
use Rattle.text_description.proofs.Texts.{SoFar}
use Rattle.text_description.proofs.reader.read_lines.Given as goal

abbrev pub invariant-loop-line : goal.invariant-loop-line
invariant-loop-line l = SoFar l.text l.initial.code l.initial.table l.line-iterator.rest.now l.q l.n l.code l.table
