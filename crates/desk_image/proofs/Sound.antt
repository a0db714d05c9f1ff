-- What holds of what a scanner makes: whatever every fit line keeps. So the memory that an image loads is acceptable, and the machine runs on it.
-- Assumes nothing.
use Rattle.std.proofs.Common.{◌≡◌, ℕ, true, eqb, ltb, List, [], ◌∷◌, length, sym, subst, arith}
use lib.ListN.{length-replicate}
use Rattle.laws.proofs.Tests.{by_case}
use Rattle.std.specs.Prelude.{is_some}
use Rattle.state.specs.Limits.{memory_words}
use Rattle.state.specs.Acceptable.{Acceptable}
use Rattle.state.proofs.Accepted.{zeros, store_acceptable}
use Rattle.characters.specs.Ascii.{line_feed}
use Rattle.text_fields.specs.Fields.{field}
use Rattle.desk_image.specs.Input.{octal_word, stored, clear}
use Rattle.desk_image.specs.Pass.{pass}
use Rattle.desk_image.specs.Scan.{Reading, Scan, ended, scan_byte, begun, Reached, words}
use Rattle.desk_image.proofs.WordLine.{word_line, octal_word_lt}

-- what holds before the first line, and is kept by every fit line, holds after each text
module _ {A : Type 0} (r : Reading A) (P : A → Type 0) (keeps : (line : List ℕ) → r.fits line ≡ true → (a : A) → P a → P (r.enter line a)) where
  abbrev Made : Scan A → Type 0
  Made s = P s.made

  ends : (s : Scan A) → Made s → Made (ended r s)
  unfolding ended
  ends s d = by_case Made (r.fits s.part) (λ t. keeps s.part t s.made d) (λ t. d)

  byte : (s : Scan A) (b : ℕ) → Made s → Made (scan_byte r s b)
  unfolding scan_byte
  byte s b d =
      by_case Made (is_some s.refused)
      (λ t. d)
      (λ t. by_case Made (eqb b line_feed) (λ u. ends s d) (λ u. by_case Made (ltb (length s.part) r.most) (λ v. d) (λ v. d)))

  after : (s : Scan A) (text : List ℕ) → Made s → Made (pass (scan_byte r) s text)
  unfolding pass
  after s [] d = d
  after s (b ∷ text) d = after (scan_byte r s b) text (byte s b d)

  pub reached_keeps : P r.start → (s : Scan A) → Reached r s → P s.made
  reached_keeps d s reached = subst Made (sym reached.is) (after (begun r) reached.text d)

-- ---- the image's memory

pub clear_acceptable : Acceptable clear
unfolding clear
clear_acceptable = record { size = length-replicate {A = ℕ} memory_words 0; words = λ k. rw (zeros memory_words k) (omega arith) }

pub reached_acceptable : (s : Scan (List ℕ)) → Reached words s → Acceptable s.made
unfolding stored
reached_acceptable s reached =
    reached_keeps words Acceptable
    (λ line t memory d. store_acceptable (octal_word (field 0 line)) (octal_word_lt (field 1 line) (word_line line t).word) d)
    clear_acceptable s reached
