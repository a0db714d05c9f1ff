-- A byte more on a page, texts behind a draft, and texts from a place on: one after the other they are one text.
-- Assumes nothing.
use mathlib.Core.Path.{◌≡◌, refl, sym, ap, ap₂, ◌∙◌}
use mathlib.Core.List.{List, [], ◌∷◌, ◌++◌, append_assoc}
use Prim.Native.Nat.{ℕ, suc, ◌+◌, ◌<◌}
use native.Mathlib.Numerals.{add-one}
use native.Mathlib.Nat.{add-zero, add_assoc}
use native.Mathlib.Omega.{arith}
use lib.ListN.{length, get_or, set, drop, length-append, length-drop, length-set}
use lib.Seq.{sets}
use Rattle.std.proofs.Math.Seq.{drop-cons, set-append_seam}
use Rattle.laws.proofs.Lists.{sets-append}
use Rattle.page.specs.Page.{Page}
use Rattle.page.specs.Written.{Written}

-- nothing on a page, and a byte more behind a text
pub page_none : (page : List ℕ) → Page [] page page 0
page_none page = record { page = refl; whole = refl; within = omega arith }

pub page_byte : (text before : List ℕ) (b : ℕ) {mid : List ℕ} {size : ℕ} → Page text before mid size → size < length mid
    → Page (text ++ b ∷ []) before (set mid size b) (size + 1)
page_byte text before b {mid} {size} p h =
    let all = ap length p.page ∙ length-append text (drop size before) in
    let there : size < length before = omega (arith, all, length-drop size before, p.whole) in
    let kept = ap (λ (l : List ℕ). text ++ l) (drop-cons before size 0 there) in
    record {
      page =
          ap (λ (l : List ℕ). set l size b) (p.page ∙ kept)
          ∙ ap (λ (n : ℕ). set (text ++ get_or before size 0 ∷ drop (suc size) before) n b) p.whole
          ∙ set-append_seam text (get_or before size 0) (drop (suc size) before) b
          ∙ ap (λ (n : ℕ). text ++ b ∷ drop n before) (sym (add-one size))
          ∙ sym (append_assoc text (b ∷ []) (drop (size + 1) before));
      whole = ap (λ (n : ℕ). n + 1) p.whole ∙ sym (length-append text (b ∷ []));
      within = rw (length-set mid size b) (omega (arith, h));
    }

-- how many bytes a draft has with a text more
pub drafted_size : (before text : List ℕ) {after : List ℕ} → after ≡ before ++ text → length after ≡ length before + length text
drafted_size before text w = ap length w ∙ length-append before text

-- one text behind another
pub drafted_then : (before text more : List ℕ) {mid after : List ℕ} → mid ≡ before ++ text → after ≡ mid ++ more → after ≡ before ++ (text ++ more)
drafted_then before text more w v = v ∙ ap (λ (l : List ℕ). l ++ more) w ∙ append_assoc before text more

-- a draft that is copied to a page, by what text it is
pub page_of : (text : List ℕ) {draft before after : List ℕ} {size : ℕ} → Page draft before after size → draft ≡ text → Page text before after size
page_of text {draft} p e = rw (← e) p

-- one text more, by the whole that it makes
pub drafted_more : (before text more : List ℕ) {whole mid after : List ℕ} → whole ≡ text ++ more → mid ≡ before ++ text → after ≡ mid ++ more
    → after ≡ before ++ whole
drafted_more before text more e w v = drafted_then before text more w v ∙ ap (λ (l : List ℕ). before ++ l) (sym e)

-- ---- from a place on

pub written_none : (page : List ℕ) (at : ℕ) → Written [] page at page at
written_none page at = record { page = refl; place = sym (add-zero at) }

pub written_then : (text more : List ℕ) {before mid after : List ℕ} {at end last : ℕ}
    → Written text before at mid end → Written more mid end after last → Written (text ++ more) before at after last
written_then text more {before} {at = at} w v =
    record {
      page = v.page ∙ ap₂ (λ (l : List ℕ) (e : ℕ). sets l e more) w.page w.place ∙ sets-append before at text more;
      place =
          v.place
          ∙ ap (λ (e : ℕ). e + length more) w.place
          ∙ add_assoc at (length text) (length more)
          ∙ ap (λ (n : ℕ). at + n) (sym (length-append text more));
    }

-- a draft that is copied to a page from a place on, by what text it is
pub written_of : (text : List ℕ) {draft before after : List ℕ} {at end : ℕ} → Written draft before at after end → draft ≡ text → Written text before at after end
written_of text {draft} w e = rw (← e) w
