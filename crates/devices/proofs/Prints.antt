-- The output buffer in the course of a run: so many bytes at its front are printed, and the room past them is as it came.
-- Assumes nothing.
use mathlib.Core.Path.{◌≡◌, refl, sym, ap, ap₂, ◌∙◌, subst}
use mathlib.Core.Bool.{true}
use mathlib.Core.List.{List, [], ◌∷◌, ◌++◌}
use Prim.Native.Nat.{ℕ, ◌+◌, ◌≤◌, ◌<◌}
use native.Mathlib.Numerals.{add-one}
use native.Mathlib.Omega.{arith}
use lib.ListN.{length, take, set, length-set}
use lib.Seq.{length-take-le, take-suc-set}
use Rattle.laws.proofs.Tests.{by_test}
use Rattle.word.specs.Choice.{on}
use Rattle.word.proofs.Choice.{case_true, case_false}
use Rattle.devices.specs.declared.Devices.{Devices}
use Rattle.devices.specs.Devices.{printed_after, written}
use Rattle.devices.specs.Held.{PrintedBy}
use Rattle.devices.proofs.Held.{print_at}

-- `printed` bytes are printed, where the buffer came as `output`
pub record Printing (output now : List ℕ) (printed : ℕ) : Type 0 where
  pub size : length now ≡ length output
  pub count : printed ≤ length now
  pub buffer : now ≡ written (take printed now) output

-- before the first
pub printing_start : (output : List ℕ) → Printing output output 0
unfolding written
printing_start output = record { size = refl; count = omega arith; buffer = refl }

-- one byte more
module _ (output now : List ℕ) (printed : ℕ) (p : Printing output now printed) (b : ℕ) (h : printed < length now) where
  printed_more : take (printed + 1) (set now printed b) ≡ take printed now ++ (b ∷ [])
  printed_more = ap (λ (n : ℕ). take n (set now printed b)) (add-one printed) ∙ take-suc-set now printed b h

  long : length (take printed now) ≡ printed
  long = length-take-le printed now p.count

  printing_more : Printing output (set now printed b) (printed + 1)
  printing_more =
      record {
        size = length-set now printed b ∙ p.size;
        count = omega (arith, h, length-set now printed b);
        buffer =
            ap₂ (λ (l : List ℕ) (n : ℕ). set l n b) p.buffer (sym long)
            ∙ print_at (take printed now) output b (omega (arith, h, long, p.size))
            ∙ ap (λ (l : List ℕ). written l output) (sym printed_more);
      }

-- the print after a step
pub record Prints (c : Devices) (output now : List ℕ) (printed : ℕ) (after : List ℕ) (count : ℕ) : Type 0 where
  pub printing : Printing output after count
  pub front : take count after ≡ printed_after c (take printed now)

pub prints_next : (c : Devices) (output now after : List ℕ) (printed count : ℕ) → Printing output now printed → (on c.mark ≡ true → printed < length now)
    → PrintedBy c now printed after count → Prints c output now printed after count
unfolding printed_after
prints_next c output now after printed count p room q =
    by_test (on c.mark)
    (λ t.
    let h = room t in
    let a = q.buffer ∙ case_true (on c.mark) (set now printed c.print) now t in
    let n = q.count ∙ case_true (on c.mark) (printed + 1) printed t in
    subst (λ (l : List ℕ). Prints c output now printed l count) (sym a)
    (subst (λ (k : ℕ). Prints c output now printed (set now printed c.print) k) (sym n)
    (record {
      printing = printing_more output now printed p c.print h;
      front =
          printed_more output now printed p c.print h
          ∙ sym (case_true (on c.mark) (take printed now ++ (c.print ∷ [])) (take printed now) t);
    })))
    (λ t.
    let a = q.buffer ∙ case_false (on c.mark) (set now printed c.print) now t in
    let n = q.count ∙ case_false (on c.mark) (printed + 1) printed t in
    subst (λ (l : List ℕ). Prints c output now printed l count) (sym a)
    (subst (λ (k : ℕ). Prints c output now printed now k) (sym n)
    (record { printing = p; front = sym (case_false (on c.mark) (take printed now ++ (c.print ∷ [])) (take printed now) t) })))
