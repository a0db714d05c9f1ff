-- The same image gives the listing's last line: a text all of whose lines are an image's is run as for its day listing, and its explanation begins with
-- the line that the listing ends with. What follows that line does not matter here.
-- Assumes nothing.
use mathlib.Core.Path.{◌≡◌, refl, sym, ap, ◌∙◌}
use mathlib.Core.Bool.{true, false}
use mathlib.Core.List.{List, [], ◌∷◌, ◌++◌, append_assoc, append-nil}
use Prim.Native.Nat.{ℕ, zero, suc, ◌/◌, ◌%◌}
use native.Mathlib.Omega.{arith}
use lib.Dec.{ltb}
use borrow.Author.Tests.{ne_eqb}
use Rattle.std.specs.Prelude.{Option, None}
use Rattle.laws.proofs.Tests.{by_test}
use Rattle.word.specs.Choice.{on}
use Rattle.state.specs.Refusals.{reason_of}
use Rattle.state.specs.declared.Reason.{Reason}
use Rattle.state.specs.declared.Reason.TheVariants.{Halted, Spent, Paper}
use Rattle.characters.specs.Ascii.{ascii, tab, line_feed, digit}
use Rattle.page.specs.Text.{octal, decimal_in, decimal}
use Rattle.desk_image.proofs.Cut.{clean, clean_append, cut_first, Whole, whole_none, whole_append, whole_feed}
use Rattle.devices.specs.declared.Devices.{Devices}
use Rattle.machine_state.specs.declared.Machine.{Machine}
use Rattle.machine_state.specs.State.{State, word, start}
use Rattle.machine_state.specs.Registers.{machine_of}
use Rattle.machine_run.specs.Step.{step}
use Rattle.machine_run.specs.Run.{run}
use Rattle.desk_image.specs.Input.{is_word_line, loaded, first_unfit}
use Rattle.desk_last_lines.specs.LastLines.{reason_word, end_line, or_refused}
use Rattle.text_fields.specs.Fields.{Line, lines}
use Rattle.desk_day_listing.specs.Listing as listing
use Rattle.desk_day_listing.specs.Listing.{run_listing, day_listing}
use Rattle.desk_inquiry.specs.Input.{ready, asked}
use Rattle.desk_inquiry.proofs.Images.{image_asks}
use Rattle.desk_explanation.specs.Explanation.{told, explained, devices_in, answer_to, explanation}

-- a text that begins with a line
record Begins (line text : List ℕ) : Type 0 where
  rest : List ℕ
  is : text ≡ line ++ rest

begins_itself : {line : List ℕ} → Begins line line
begins_itself {line} = record { rest = []; is = sym (append-nil line) }

begins_longer : {line text : List ℕ} (more : List ℕ) → Begins line text → Begins line (text ++ more)
begins_longer {line} {text} more b = record { rest = b.rest ++ more; is = ap (λ (t : List ℕ). t ++ more) b.is ∙ append_assoc line b.rest more }

-- the run's last line comes first
end_first : (m : Machine) (c : Devices) (memory : List ℕ) (budget : ℕ) (input : List ℕ)
    → Begins (end_line (run budget (start m memory)).steps (reason_of (run budget (start m memory)).left.run)) (explained false m c memory budget input)
unfolding explained told
end_first m c memory budget input = begins_longer _ (begins_longer _ (begins_longer _ (begins_longer _ (begins_longer _ begins_itself))))

-- ---- one line

digit_clean : (d : ℕ) → clean (digit d ∷ []) ≡ true
digit_clean d = rw (ne_eqb (digit d) line_feed (λ q. omega arith))

decimal_clean : (n x : ℕ) → clean (decimal_in n x) ≡ true
unfolding decimal_in
decimal_clean zero x = refl
decimal_clean (suc n) x =
    by_test (ltb x 10)
    (λ e. rw (e, decimal_in) (digit_clean x))
    (λ e. rw (e, decimal_in) (clean_append (decimal_in n (x / 10)) (digit (x % 10) ∷ []) (decimal_clean n (x / 10)) (digit_clean (x % 10))))

reason_clean : (why : Reason) → clean (tab ∷ reason_word why) ≡ true
reason_clean Halted = refl
reason_clean Spent = refl
reason_clean Paper = refl

-- a run's last line is one line
abbrev end_bytes : ℕ → Reason → List ℕ
end_bytes steps why = ascii "end\t" ++ decimal steps ++ tab ∷ reason_word why

end_line_cut : (steps : ℕ) (why : Reason) (text : List ℕ) → lines (end_line steps why ++ text) ≡ record { bytes = end_bytes steps why; ended = true } ∷ lines text
unfolding end_line decimal
end_line_cut steps why text =
    cut_first (end_bytes steps why) text
    (clean_append (ascii "end\t" ++ decimal steps) (tab ∷ reason_word why)
    (clean_append (ascii "end\t") (decimal steps) refl (decimal_clean (suc steps) steps)) (reason_clean why))

-- and what a listing has before it is whole lines
step_line_whole : (n pc i lac run : ℕ) → Whole (listing.step_line n pc i lac run)
unfolding listing.step_line
step_line_whole n pc i lac run = whole_feed (decimal n ++ tab ∷ octal 4 pc ++ tab ∷ octal 4 i ++ tab ∷ octal 5 lac ++ tab ∷ octal 1 run)

step_lines_whole : (left done : ℕ) (s : State) → Whole (listing.step_lines left done s)
unfolding listing.step_lines
step_lines_whole zero done s = whole_none
step_lines_whole (suc left) done s =
    by_test (on s.run)
    (λ e.
    let t = step s in
    rw (e, listing.step_lines)
    (whole_append (listing.step_line (suc done) s.pc (word s.pc s) t.lac t.run) (listing.step_lines left (suc done) t)
    (step_line_whole (suc done) s.pc (word s.pc s) t.lac t.run) (step_lines_whole left (suc done) t)))
    (λ e. rw (e, listing.step_lines) whole_none)

heading_whole : Whole listing.heading
heading_whole = whole_feed (ascii "step\tpc\ti\tlac\trun")

-- ---- the first of some lines, and the last

abbrev pub first_of : List Line → List ℕ
first_of [] = []
first_of (l ∷ ls) = l.bytes

abbrev pub last_of : List Line → List ℕ
last_of [] = []
last_of (l ∷ []) = l.bytes
last_of (l ∷ m ∷ ls) = last_of (m ∷ ls)

last_one : (ls : List Line) (l : Line) → last_of (ls ++ l ∷ []) ≡ l.bytes
last_one [] l = refl
last_one (a ∷ []) l = refl
last_one (a ∷ b ∷ ls) l = last_one (b ∷ ls) l

-- ---- a text all of whose lines are an image's

module _ (text : List ℕ) (fit : first_unfit is_word_line 1 (lines text) ≡ None) where
  abbrev memory : List ℕ
  memory = loaded text

  -- how the run of its memory ends
  abbrev ends : List ℕ
  ends = end_line (run listing.budget (listing.ready memory)).steps (reason_of (run listing.budget (listing.ready memory)).left.run)

  -- without its LF
  abbrev end : List ℕ
  end = end_bytes (run listing.budget (listing.ready memory)).steps (reason_of (run listing.budget (listing.ready memory)).left.run)

  abbrev above : List ℕ
  above = listing.heading ++ listing.step_lines listing.budget 0 (listing.ready memory)

  listed : day_listing text ≡ above ++ ends
  unfolding day_listing run_listing
  listed = ap (λ (unfit : Option ℕ). or_refused unfit (run_listing memory)) fit

  listed_last : last_of (lines (day_listing text)) ≡ end
  unfolding lines
  listed_last =
      let whole = whole_append listing.heading (listing.step_lines listing.budget 0 (listing.ready memory)) heading_whole (step_lines_whole listing.budget 0 (listing.ready memory)) in
      let one : lines ends ≡ record { bytes = end; ended = true } ∷ [] = ap lines (sym (append-nil ends)) ∙ end_line_cut _ _ [] in
      ap (λ (t : List ℕ). last_of (lines t)) listed ∙ ap last_of (whole ends) ∙ ap (λ (ls : List Line). last_of (lines above ++ ls)) one ∙ last_one (lines above) _

  explains : explanation text ≡ explained ready.devices (machine_of ready.registers) (devices_in ready.registers) memory ready.budget ready.input
  unfolding explanation
  explains = let asks = image_asks text fit in ap (λ (unfit : Option ℕ). or_refused unfit (answer_to (asked text))) asks.fits ∙ ap answer_to asks.asks

  explained_first : first_of (lines (explanation text)) ≡ end
  unfolding ready
  explained_first =
      let b = end_first (machine_of ready.registers) (devices_in ready.registers) memory ready.budget ready.input in
      ap (λ (t : List ℕ). first_of (lines t)) (explains ∙ b.is) ∙ ap first_of (end_line_cut _ _ b.rest)

  -- the explanation's first line is the listing's last line
  pub same_line : first_of (lines (explanation text)) ≡ last_of (lines (day_listing text))
  same_line = explained_first ∙ sym listed_last
