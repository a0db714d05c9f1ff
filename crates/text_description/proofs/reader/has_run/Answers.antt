-- `text_description::reader::has_run`: the place of RUN, and its width.
use Rattle.std.proofs.Common.{rules}
use Rattle.text_description.proofs.Texts.{run_found}
use Rattle.text_description.proofs.reader.has_run.Goals as goal

pub returns : goal.returns
returns c = run_found c.args.text.now c.args.registers _ _ c.place_of.ensures c.is_some_and.ensures (λ i q. search rules)
