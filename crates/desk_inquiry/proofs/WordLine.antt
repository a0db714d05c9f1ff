-- The form of a word's line is one for both programs, so that an inquiry reads a line that is fit for an image as that word: neither a register's name nor `budget` nor `input`
-- is four octal digits. And no fit line is empty, nor longer than the scanner's buffer.
-- Assumes nothing.
use Rattle.std.proofs.Common.{◌≡◌, ℕ, suc, ◌≤◌, Bool, true, false, ◌&&◌, eqb, ltb, leb, List, [], ◌∷◌, length, get_or, refl, ap, ◌∙◌, arith, ltb-true, eqb-true, leb-true}
use Rattle.laws.proofs.Joined.{and_both, and_right}
use Rattle.laws.proofs.Tests.{by_test}
use Rattle.characters.specs.Ascii.{ascii, digit}
use Rattle.characters.specs.Characters.{belongs, run, same}
use Rattle.characters.specs.Named.{Named, find}
use Rattle.characters.specs.declared.Class.TheVariants.{Octal}
use Rattle.characters.proofs.Runs.{run_none}
use Rattle.characters.proofs.Strings.{equal}
use Rattle.text_fields.specs.Fields.{field, has_fields}
use Rattle.desk_image.specs.Input.{is_octal_word, octal_word, is_word_line}
use Rattle.desk_image.proofs.WordLine.{word_line}
use Rattle.desk_image.proofs.ByLines.{Bounded}
use Rattle.desk_registers.specs.Registers.{desk_registers}
use Rattle.desk_entry.specs.Lines.{word_entry, said, entry}
use Rattle.std.specs.Prelude.{Some}
use Rattle.desk_entry.specs.declared.Entry.TheVariants.{Word}
use Rattle.desk_entry.proofs.Short.{long_unfit}
use Rattle.desk_inquiry.specs.Input.{is_fit_line}
use Rattle.desk_inquiry.specs.Scan.{asking}

-- ---- names begin with letters

-- octal digits begin with one
run_first : (s : List ℕ) → run Octal s ≡ 4 → get_or s 0 0 ≤ digit 7
unfolding run
run_first [] e = absurd (omega arith)
run_first (b ∷ s) e =
    by_test (belongs Octal b)
    (λ t. leb-true b (digit 7) (and_right (leb (digit 0) b) (leb b (digit 7)) t))
    (λ t. absurd (omega (arith, run_none Octal b s t)))

octal_first : (s : List ℕ) → is_octal_word s ≡ true → get_or s 0 0 ≤ digit 7
octal_first s t = run_first s (eqb-true _ _ (and_right (eqb (length s) 4) (eqb (run Octal s) 4) t))

-- whether each name of a table begins with a byte above the octal digits
abbrev all_above : List Named → Bool
all_above [] = true
all_above (e ∷ table) = ltb (digit 7) (get_or e.name 0 0) && all_above table

-- what begins with a digit is not among them
none_found : (s : List ℕ) (table : List Named) → get_or s 0 0 ≤ digit 7 → all_above table ≡ true → find s table ≡ length table
unfolding find
none_found s [] h all = refl
none_found s (e ∷ table) h all =
    let parts = and_both (ltb (digit 7) (get_or e.name 0 0)) (all_above table) all in
    let above = ltb-true (digit 7) (get_or e.name 0 0) parts.0 in
    by_test (same e.name s)
    (λ t. let first : get_or e.name 0 0 ≡ get_or s 0 0 = ap (λ (x : List ℕ). get_or x 0 0) (equal e.name s t) in absurd (omega arith))
    (λ t. rw (t, find) (ap suc (none_found s table h parts.1)))

no_budget : (s : List ℕ) → get_or s 0 0 ≤ digit 7 → same s (ascii "budget") ≡ false
no_budget s h =
    by_test (same s (ascii "budget"))
    (λ t. let first : get_or s 0 0 ≡ 98 = ap (λ (x : List ℕ). get_or x 0 0) (equal s (ascii "budget") t) in absurd (omega arith))
    (λ t. t)

no_input : (s : List ℕ) → get_or s 0 0 ≤ digit 7 → same s (ascii "input") ≡ false
no_input s h =
    by_test (same s (ascii "input"))
    (λ t. let first : get_or s 0 0 ≡ 105 = ap (λ (x : List ℕ). get_or x 0 0) (equal s (ascii "input") t) in absurd (omega arith))
    (λ t. t)

-- ---- the line

no_other : (name value : List ℕ) → get_or name 0 0 ≤ digit 7 → said name value ≡ word_entry name value
unfolding said
no_other name value h =
    let none : ltb (find name desk_registers) (length desk_registers) ≡ false =
    ap (λ (n : ℕ). ltb n (length desk_registers)) (none_found name desk_registers h refl) in
    rw (no_budget name h, no_input name h, none, said)

pub says_word : (line : List ℕ) → is_word_line line ≡ true → entry line ≡ Some (Word (octal_word (field 0 line)) (octal_word (field 1 line)))
unfolding entry word_entry
says_word line t =
    let w = word_line line t in
    rw (w.two, entry) (no_other (field 0 line) (field 1 line) (octal_first (field 0 line) w.address) ∙ rw (w.address, w.word, word_entry))

-- ---- all lines

empty_unfit : is_fit_line [] ≡ false
unfolding entry has_fields run
empty_unfit = refl

pub bounded_asking : Bounded asking
bounded_asking = record { empty_unfit = empty_unfit; long_unfit = long_unfit }
