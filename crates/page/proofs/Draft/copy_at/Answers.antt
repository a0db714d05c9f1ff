-- `page::Draft::copy_at`: the part of the page from the place on is the text.
use Rattle.std.proofs.Common.{rules, arith, ◌≡◌, sym, ap, ◌∙◌, ◌+◌, ◌-◌, List, ◌++◌, ℕ, length, take}
use lib.ListN.{drop}
use Rattle.std.proofs.Math.Seq.{take-length}
use Rattle.std.proofs.lemmas.Slice.{put_mid-paste}
use Rattle.std.proofs.lemmas.List.Edits.{sets-eq}
use Rattle.page.proofs.Draft.copy_at.Goals as goal

pub returns : goal.returns
returns g c =
    let at : ℕ = c.args.at in
    let size : ℕ = c.self.inside.size in
    let page : List ℕ = c.args.page.now in
    let text : List ℕ = c.args.self.now in
    let whole : size ≡ length text = search rules in
    record {
      page =
          put_mid-paste at (at + size - at) page c.copy_from_slice.new.self text size (search rules) (omega arith) whole
          ∙ ap (λ (n : ℕ). take at page ++ take n text ++ drop (at + n) page) whole
          ∙ ap (λ (l : List ℕ). take at page ++ l ++ drop (at + length text) page) (take-length text)
          ∙ sym (sets-eq text page at c.requires);
      place = ap (λ (n : ℕ). at + n) whole;
    }
