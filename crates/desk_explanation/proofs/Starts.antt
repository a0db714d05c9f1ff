-- What passes the check is a start of the claim, with devices or without: the registers that are asked for, and 0 in the working registers.
-- Assumes nothing.
use mathlib.Core.Path.{◌≡◌, refl, sym, subst}
use mathlib.Core.Bool.{Bool, true, false}
use mathlib.Core.List.{List, [], ◌∷◌, ◌++◌, map}
use Prim.Native.Nat.{ℕ, zero, suc, ◌-◌, ◌^◌, ◌≤◌, ◌<◌}
use native.Mathlib.Omega.{arith}
use lib.ListN.{length, get_or, replicate}
use lib.Pow.{pow_pos}
use Rattle.characters.specs.Named.{Named}
use Rattle.state.specs.Limits.{budget_limit, row_places}
use Rattle.state.specs.Acceptable.{Acceptable, Fitting}
use Rattle.std.specs.Prelude.{Ok}
use Rattle.state.proofs.Accepted.{state_sound, zeros}
use Rattle.devices.specs.declared.Devices.{Devices}
use Rattle.devices.specs.Devices.{DevicesFit}
use Rattle.machine_state.specs.declared.Machine.{Machine}
use Rattle.machine_state.specs.State.{Good, start}
use Rattle.text_limits.specs.Limits.{most_registers}
use Rattle.text_declaration.specs.Rows.{Description}
use Rattle.evaluator.specs.Evaluate.{widths_of}
use Rattle.shipped_rows.specs.Variant.{registers_of, values_of}
use Rattle.shipped_rows.proofs.Accepted.{shipped_is}
use Rattle.shipped_rows.proofs.Places.{as_many}
use Rattle.shipped_rows.proofs.Tree.{working_registers}
use Rattle.shipped.specs.Claim.{Start, Claim}
use Rattle.shipped.proofs.Starts.{machine_first}
use Rattle.shipped.proofs.Agree.{runs_agree}
use Rattle.desk_run_lines.specs.Registers.{variant_of}
use Rattle.desk_explanation.specs.Explanation.{places_of}
use Rattle.desk_explanation.specs.Answered.{check_of}

abbrev width : Named → ℕ
width r = r.number

-- zeros behind values that fit fit, too
padded_fit : (names later : List Named) (values : List ℕ) (n : ℕ) → length values ≡ length names → Fitting (map width names) values
    → Fitting (map width (names ++ later)) (values ++ replicate n 0)
padded_fit [] later [] n e f = record { narrow = λ k. rw (zeros n k) (pow_pos (get_or (map width later) k 0)) }
padded_fit [] later (x ∷ values) n e f = absurd (omega (arith, e))
padded_fit (r ∷ names) later [] n e f = absurd (omega (arith, e))
padded_fit (r ∷ names) later (x ∷ values) n e f =
    record { narrow = at (padded_fit names later values n (omega (arith, e)) (record { narrow = λ k. f.narrow (suc k) })) }
  where
    at : Fitting (map width (names ++ later)) (values ++ replicate n 0)
        → (k : ℕ) → get_or (x ∷ (values ++ replicate n 0)) k 0 < 2 ^ get_or (width r ∷ map width (names ++ later)) k 0
    at others zero = f.narrow 0
    at others (suc k) = others.narrow k

all_places_lem : (d : Bool) (m : Machine) (c : Devices) → length (places_of d m c) ≡ most_registers
all_places_lem true m c = refl
all_places_lem false m c = refl

module _ (d : Bool) (m : Machine) (c : Devices) (memory : List ℕ) (budget : ℕ) (fit : check_of d m c memory budget ≡ Ok tt) where
  abbrev names : List Named
  names = registers_of (variant_of d)

  -- the places behind the machine's registers
  abbrev unused : ℕ
  unused = most_registers - length names

  sound : Acceptable memory × Fitting (map width names) (values_of (variant_of d) m c) × (budget ≤ budget_limit)
  sound = state_sound (map width names) (values_of (variant_of d) m c) memory budget fit

  pub checked_good : Good (start m memory)
  checked_good =
      let narrow = sound.1.narrow in
      record { lac = narrow 0; pc = narrow 1; run = narrow 2; enable = narrow 3; request = narrow 4; switches = narrow 5; memory = sound.0 }

  checked_start : (list : List ℕ) → row_places ≤ length list → Start (variant_of d) m c (places_of d m c) memory budget list
  checked_start list room =
      record {
        places = all_places_lem d m c;
        machine = machine_first (variant_of d) m c (replicate unused 0);
        fitting =
            subst (λ (t : Description). Fitting (widths_of t) (places_of d m c)) (sym (shipped_is (variant_of d)))
            (padded_fit names working_registers (values_of (variant_of d) m c) unused (as_many (variant_of d) m c) sound.1);
        acceptable = sound.0;
        within = sound.2;
        roomy = room;
      }

  pub checked_claim : (list input output : List ℕ) → row_places ≤ length list → Claim (variant_of d) m c (places_of d m c) memory budget list input output
  checked_claim list input output room = runs_agree (variant_of d) m c (places_of d m c) memory budget list input output (checked_start list room)

-- with devices, theirs fit
pub checked_devices : (m : Machine) (c : Devices) (memory : List ℕ) (budget : ℕ) → check_of true m c memory budget ≡ Ok tt → DevicesFit c
checked_devices m c memory budget fit =
    let narrow = (sound true m c memory budget fit).1.narrow in
    record { key = narrow 6; keyboard = narrow 7; printer = narrow 8; print = narrow 9; mark = narrow 10 }
