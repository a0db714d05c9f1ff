-- A text all of whose lines are an image's: an inquiry reads it as the day listing does. None of its lines is unfit, and what they ask for is the memory that
-- they load, with nothing else changed.
-- Assumes nothing.
use Rattle.std.proofs.Common.{◌≡◌, ℕ, suc, true, ◌&&◌, List, [], ◌∷◌, sym, refl, ap, ◌∙◌}
use mathlib.Core.Bool.{false≢true}
use Rattle.laws.proofs.Joined.{and_both}
use Rattle.laws.proofs.Tests.{by_test}
use Rattle.text_fields.specs.Fields.{Line, lines, field}
use Rattle.desk_image.specs.Input.{is_word_line, stored, after_lines, loaded, first_unfit}
use Rattle.desk_entry.specs.Lines.{is_fit}
use Rattle.desk_entry.specs.declared.Entry.{Entry}
use Rattle.std.specs.Prelude.{Option, Some, None, is_some}
use Rattle.desk_inquiry.specs.Input.{Inquiry, ready, entered, entered_if, is_fit_line, entered_line, asked}
use Rattle.desk_inquiry.proofs.WordLine.{says_word}

-- with another memory
abbrev holding : List ℕ → Inquiry → Inquiry
holding memory q = record { registers = q.registers; budget = q.budget; memory = memory; input = q.input; devices = q.devices }

-- one line
module _ (line : List ℕ) (q : Inquiry) (t : is_word_line line ≡ true) where
  fits_line : is_fit_line line ≡ true
  fits_line = ap is_fit (says_word line t)

  asks_line : entered_line line q ≡ holding (stored line q.memory) q
  unfolding entered stored
  asks_line = ap (λ (said : Option Entry). entered_if said (field 1 line) q) (says_word line t)

-- all lines
record AsListed (n : ℕ) (ls : List Line) (q : Inquiry) : Type 0 where
  fits : first_unfit is_fit_line n ls ≡ None
  asks : after_lines entered_line ls q ≡ holding (after_lines stored ls q.memory) q

as_listed : (n : ℕ) (ls : List Line) (q : Inquiry) → first_unfit is_word_line n ls ≡ None → AsListed n ls q
unfolding first_unfit after_lines
as_listed n [] q z = record { fits = refl; asks = refl }
as_listed n (l ∷ ls) q z =
    by_test (l.ended && is_word_line l.bytes)
    (λ t.
    let parts = and_both l.ended (is_word_line l.bytes) t in
    let rest : first_unfit is_word_line n (l ∷ ls) ≡ first_unfit is_word_line (suc n) ls = rw (t, first_unfit) in
    let fit : (l.ended && is_fit_line l.bytes) ≡ true = rw (parts.0, fits_line l.bytes q parts.1) in
    let first : first_unfit is_fit_line n (l ∷ ls) ≡ first_unfit is_fit_line (suc n) ls = rw (fit, first_unfit) in
    let later = as_listed (suc n) ls (holding (stored l.bytes q.memory) q) (sym rest ∙ z) in
    record { fits = first ∙ later.fits; asks = ap (after_lines entered_line ls) (asks_line l.bytes q parts.1) ∙ later.asks })
    (λ t.
    let number : first_unfit is_word_line n (l ∷ ls) ≡ Some n = rw (t, first_unfit) in
    absurd (false≢true (sym (ap is_some (sym number ∙ z)))))

-- what a text of an image's lines asks for
pub record Image (text : List ℕ) : Type 0 where
  pub fits : first_unfit is_fit_line 1 (lines text) ≡ None
  pub asks : asked text ≡ holding (loaded text) ready

pub image_asks : (text : List ℕ) → first_unfit is_word_line 1 (lines text) ≡ None → Image text
unfolding ready
image_asks text z = let d = as_listed 1 (lines text) ready z in record { fits = d.fits; asks = d.asks }
