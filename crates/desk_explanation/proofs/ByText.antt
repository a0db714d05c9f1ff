-- The explanation of what a scanner keeps: the ways that it goes, and that after a text it is the text's explanation.
-- Assumes nothing.
use mathlib.Core.Path.{◌≡◌, refl, ap, ◌∙◌}
use mathlib.Core.Bool.{Bool, true, false}
use mathlib.Core.List.{List}
use Prim.Native.Nat.{ℕ, ◌+◌, ◌^◌, ◌<◌}
use lib.ListN.{length, get_or, drop}
use lib.Seq.{get_or-drop}
use Rattle.state.specs.Refusals.{Verdict}
use Rattle.std.specs.Prelude.{Ok}
use Rattle.devices.specs.Devices.{DevicesFit}
use Rattle.machine_state.specs.State.{start, Good}
use Rattle.machine_state.specs.Registers.{machine_registers, machine_of}
use Rattle.desk_registers.specs.Registers.{desk_widths}
use Rattle.emulator.proofs.Starts.{good_checked, fit_checked}
use Rattle.desk_last_lines.specs.LastLines.{refused_line, or_refused}
use Rattle.std.specs.Prelude.{Option, Some, None}
use Rattle.desk_last_lines.proofs.Refused.{same_unrefused}
use Rattle.desk_image.specs.Pass.{Countable}
use Rattle.desk_image.specs.Scan.{Scan, unfit_line, scan_of}
use Rattle.desk_image.proofs.ByLines.{by_lines}
use Rattle.desk_inquiry.specs.Input.{Inquiry, asked}
use Rattle.desk_inquiry.specs.Scan.{asking}
use Rattle.desk_inquiry.proofs.WordLine.{bounded_asking}
use Rattle.desk_inquiry.proofs.Sound.{Sound, reached_sound}
use Rattle.desk_explanation.specs.Explanation.{devices_in, answer_to, explanation}
use Rattle.desk_explanation.specs.Answered.{checked_by, check_of, answered, reply, scan_explanation}

-- by its first unfit line, and where there is none
module _ (s : Scan Inquiry) where
  pub print_refused : (n : ℕ) → unfit_line s ≡ Some n → scan_explanation s ≡ refused_line n
  unfolding scan_explanation
  print_refused n u = ap (λ (unfit : Option ℕ). or_refused unfit (reply s.made)) u

  pub print_answered : unfit_line s ≡ None → scan_explanation s ≡ reply s.made
  unfolding scan_explanation
  print_answered u = ap (λ (unfit : Option ℕ). or_refused unfit (reply s.made)) u

-- no check turns a sound inquiry down: registers that fit are those of a good state, and of devices that fit
sound_checked : (d : Bool) (q : Inquiry) → Sound q → check_of d (machine_of q.registers) (devices_in q.registers) q.memory q.budget ≡ Ok tt
sound_checked d q s = go d
  where
    narrow : (k : ℕ) → get_or q.registers k 0 < 2 ^ get_or desk_widths k 0
    narrow = s.registers.narrow

    good : Good (start (machine_of q.registers) q.memory)
    good = record { lac = narrow 0; pc = narrow 1; run = narrow 2; enable = narrow 3; request = narrow 4; switches = narrow 5; memory = s.memory }

    at : (k : ℕ) → get_or (drop (length machine_registers) q.registers) k 0 < 2 ^ get_or desk_widths (6 + k) 0
    at k = rw (get_or-drop (length machine_registers) q.registers k 0) (narrow (6 + k))

    fit : DevicesFit (devices_in q.registers)
    fit = record { key = at 0; keyboard = at 1; printer = at 2; print = at 3; mark = at 4 }

    go : (t : Bool) → check_of t (machine_of q.registers) (devices_in q.registers) q.memory q.budget ≡ Ok tt
    go false = good_checked (machine_of q.registers) q.memory q.budget good s.budget
    go true = fit_checked (machine_of q.registers) (devices_in q.registers) q.memory q.budget good fit s.budget

sound_answered : (q : Inquiry) → Sound q → reply q ≡ answer_to q
unfolding answered
sound_answered q d =
    ap (λ (v : Verdict). checked_by v (answer_to q)) (sound_checked q.devices q d)

-- after a text: refused by its first unfit line, else answered as its lines ask
pub scan_explanation_lem : (text : List ℕ) → Countable text → scan_explanation (scan_of asking text) ≡ explanation text
unfolding explanation scan_explanation
scan_explanation_lem text h =
    let s = scan_of asking text in
    let keeps = by_lines asking bounded_asking text h in
    let sound = reached_sound s (record { text = text; is = refl }) in
    ap (λ (unfit : Option ℕ). or_refused unfit (reply s.made)) keeps.unfit
    ∙ same_unrefused _ _ (answer_to (asked text)) (λ z. sound_answered s.made sound ∙ ap answer_to (keeps.makes z))
