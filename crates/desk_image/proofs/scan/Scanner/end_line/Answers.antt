-- `desk_image::scan::Scanner::end_line`: the bytes of the line decide.
use Rattle.std.proofs.Common.{List, ℕ, sym, ap, ◌∙◌}
use Rattle.desk_image.specs.Scan.{kept_by, at_next_line, refusing}
use Rattle.desk_image.proofs.Scanning.{ends_unfit, ends_fit}
use Rattle.desk_image.proofs.scan.Scanner.end_line.Goals as goal

pub returns-then-enter : goal.returns-then-enter
returns-then-enter g c =
    let r = g.L.Lines.reading in
    let s = kept_by g.L.Lines.made c.args.self.now c.args.memory.now in
    let fit = sym (ap r.fits c.part-line.ensures) ∙ sym c.enter.ensures.fit ∙ c.if-enter.true in
    c.next_line.ensures _
    ∙ ap (λ m. at_next_line m s) (c.if-enter.ensures.entered ∙ ap (λ (l : List ℕ). r.enter l s.made) c.part-line.ensures)
    ∙ sym (ends_fit r s fit)

pub returns-else-enter : goal.returns-else-enter
returns-else-enter g c =
    let r = g.L.Lines.reading in
    let s = kept_by g.L.Lines.made c.args.self.now c.args.memory.now in
    let unfit = sym (ap r.fits c.part-line.ensures) ∙ sym c.enter.ensures.fit ∙ c.if-enter.false in
    c.refuse.ensures _
    ∙ ap (λ m. refusing (record { line = s.line; part = s.part; refused = s.refused; made = m })) c.if-enter.ensures.entered
    ∙ sym (ends_unfit r s unfit)
