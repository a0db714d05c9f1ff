-- A start that meets document 01's conditions: the machine's state and the working registers in it, that each fits, and that neither entry refuses it.
-- Assumes nothing.
use mathlib.Core.Path.{◌≡◌, refl, sym, ap, ap₂, ◌∙◌, subst}
use mathlib.Core.List.{List, [], ◌∷◌, ◌++◌, map}
use Prim.Native.Nat.{ℕ, zero, suc, ◌+◌, ◌^◌, ◌≤◌, ◌<◌}
use native.Mathlib.Omega.{arith}
use lib.Dec.{lit≤, lit<}
use lib.ListN.{length, get_or, take, drop, take-append-drop, length-drop, get_or-map}
use lib.Seq.{drop-cons, take-append_seam, take_at, get_or-append-add}
use borrow.Author.Tests.{le-ltb}
use Rattle.state.specs.Acceptable.{Fitting}
use Rattle.state.specs.Checks.{check_state}
use Rattle.state.specs.Limits.{budget_limit, row_places}
use Rattle.std.specs.Prelude.{Ok}
use Rattle.state.proofs.Accepted.{sound_state}
use Rattle.devices.specs.declared.Devices.{Devices}
use Rattle.devices.specs.Devices.{DevicesFit, device_registers, device_values}
use Rattle.machine_state.specs.declared.Machine.{Machine}
use Rattle.machine_state.specs.State.{start, Good}
use Rattle.machine_console.specs.Console.{console}
use Rattle.machine_state.specs.Registers.{machine_registers, values}
use Rattle.emulator.proofs.Starts.{good_fitting}
use Rattle.rows_value.specs.Value as rows
use Rattle.evaluator.specs.Evaluate.{widths_of, check}
use Rattle.text_declaration.specs.Rows.{Description}
use Rattle.characters.specs.Named.{Named}
use Rattle.text_limits.specs.Limits.{most_registers}
use Rattle.shipped_rows.specs.Variant.{Variant, plain, devices, registers_of, values_of}
use Rattle.shipped_rows.specs.Shipped.{shipped}
use Rattle.shipped.specs.Claim.{machine_part, Start}
use Rattle.shipped_rows.proofs.Tree.{working_registers, work_at, tree}
use Rattle.shipped_rows.proofs.Accepted.{shipped_is}
use Rattle.shipped_rows.proofs.Places.{Work, Fit, work_values, in_places, as_many, work_read}
use Rattle.shipped_rows.proofs.Machines.{FlagsOf, Sound}

abbrev width : Named → ℕ
width r = r.number

-- "Machine registers, in this order, which begins the shipped description too"
pub shipped_begins : (v : Variant) → take (length (registers_of v)) (shipped v).registers ≡ registers_of v
shipped_begins v =
    ap (λ (d : Description). take (length (registers_of v)) d.registers) (shipped_is v) ∙ take-append_seam (registers_of v) working_registers

-- the machine's registers are the first places
pub machine_first : (v : Variant) (m : Machine) (c : Devices) (later : List ℕ) → machine_part v (values_of v m c ++ later) ≡ values_of v m c
machine_first v m c later = take_at (values_of v m c) later (length (registers_of v)) (as_many v m c)

-- n places of a list one by one, then the places that follow
abbrev spelled : ℕ → ℕ → List ℕ → List ℕ
spelled at zero l = drop at l
spelled at (suc n) l = get_or l at 0 ∷ spelled (suc at) n l

spelled_is : (at n : ℕ) (l : List ℕ) → at + n ≤ length l → drop at l ≡ spelled at n l
spelled_is at zero l h = refl
spelled_is at (suc n) l h = drop-cons l at 0 (omega arith) ∙ ap (λ (t : List ℕ). get_or l at 0 ∷ t) (spelled_is (suc at) n l (omega arith))

-- the working registers among the evaluator's places
abbrev work_part : Variant → List ℕ → List ℕ
work_part v l = drop (length (registers_of v)) l

abbrev pub work_of : Variant → List ℕ → Work
work_of v l =
    record { i = get_or (work_part v l) 0 0; last = get_or (work_part v l) 1 0; eadd = get_or (work_part v l) 2 0; skip = get_or (work_part v l) 3 0; rest = drop 4 (work_part v l) }

-- there is room for them
roomy : (v : Variant) → length (registers_of v) + length working_registers ≤ most_registers
roomy plain = lit≤ tt
roomy devices = lit≤ tt

-- the width of each
widths_at : (v : Variant) (k : ℕ) → get_or (widths_of (tree v)) (work_at v k) 0 ≡ get_or (map width working_registers) k 0
widths_at v k =
    let none : Named = record { name = []; number = 0 } in
    get_or-map width (registers_of v ++ working_registers) (work_at v k) none
    ∙ ap width (get_or-append-add (registers_of v) working_registers k none)
    ∙ sym (get_or-map width working_registers k none)

-- two lists of widths and of values that fit, one behind the other
joined_fit : (names later : List Named) (values more : List ℕ) → length values ≡ length names → Fitting (map width names) values → Fitting (map width later) more
    → Fitting (map width (names ++ later)) (values ++ more)
joined_fit [] later [] more e p q = q
joined_fit [] later (x ∷ values) more e p q = absurd (omega (arith, e))
joined_fit (r ∷ names) later [] more e p q = absurd (omega (arith, e))
joined_fit (r ∷ names) later (x ∷ values) more e p q =
    let others = joined_fit names later values more (omega (arith, e)) (record { narrow = λ k. p.narrow (suc k) }) q in
    record { narrow = at others }
  where
    at : Fitting (map width (names ++ later)) (values ++ more) → (k : ℕ) → get_or (x ∷ (values ++ more)) k 0 < 2 ^ get_or (width r ∷ map width (names ++ later)) k 0
    at others zero = p.narrow 0
    at others (suc k) = others.narrow k

-- and the first two of such
first_fit : (names later : List Named) (values more : List ℕ) → length values ≡ length names → Fitting (map width (names ++ later)) (values ++ more)
    → Fitting (map width names) values
first_fit [] later [] more e p = record { narrow = λ k. lit< tt }
first_fit [] later (x ∷ values) more e p = absurd (omega (arith, e))
first_fit (r ∷ names) later [] more e p = absurd (omega (arith, e))
first_fit (r ∷ names) later (x ∷ values) more e p =
    let others = first_fit names later values more (omega (arith, e)) (record { narrow = λ k. p.narrow (suc k) }) in
    record { narrow = at others }
  where
    at : Fitting (map width names) values → (k : ℕ) → get_or (x ∷ values) k 0 < 2 ^ get_or (width r ∷ map width names) k 0
    at others zero = p.narrow 0
    at others (suc k) = others.narrow k

-- flags that fit are bits
fitting_flags : (v : Variant) (m : Machine) (c : Devices) (later : List ℕ) → Fitting (widths_of (tree v)) (values_of v m c ++ later) → FlagsOf v c
fitting_flags plain m c later f = tt
fitting_flags devices m c later f = record { keyboard = f.narrow 7; printer = f.narrow 8 }

module _ {v : Variant} {m : Machine} {c : Devices} {registers memory : List ℕ} {budget : ℕ} {list : List ℕ} (s : Start v m c registers memory budget list) where
  abbrev work : Work
  work = work_of v registers

  work_is : work_part v registers ≡ work_values work
  work_is = spelled_is 0 4 (work_part v registers) (omega (arith, length-drop (length (registers_of v)) registers, s.places, roomy v))

  places_are : registers ≡ values_of v m c ++ work_values work
  places_are = sym (take-append-drop (length (registers_of v)) registers) ∙ ap₂ ◌++◌ s.machine work_is

  pub start_in_places : ◌≡◌ {A = rows.State} (record { registers = registers; memory = memory }) (in_places v c (start m memory) work)
  start_in_places = ap (λ (l : List ℕ). record { registers = l; memory = memory }) places_are

  fitting : Fitting (widths_of (tree v)) (values_of v m c ++ work_values work)
  fitting =
      subst (λ (d : Description). Fitting (widths_of d) (values_of v m c ++ work_values work)) (shipped_is v) (subst (Fitting (widths_of (shipped v))) places_are s.fitting)

  start_good : Good (start m memory)
  start_good =
      record {
        lac = fitting.narrow 0;
        pc = fitting.narrow 1;
        run = fitting.narrow 2;
        enable = fitting.narrow 3;
        request = fitting.narrow 4;
        switches = fitting.narrow 5;
        memory = s.acceptable;
      }

  pub start_sound : Sound v (console (start m memory) c)
  start_sound = record { good = start_good; flags = fitting_flags v m c (work_values work) fitting }

  work_narrow : (k : ℕ) → get_or (work_values work) k 0 < 2 ^ get_or (map width working_registers) k 0
  work_narrow k =
      subst (λ (n : ℕ). get_or (work_values work) k 0 < 2 ^ n) (widths_at v k)
      (subst (λ (x : ℕ). x < 2 ^ get_or (widths_of (tree v)) (work_at v k) 0) (work_read v c (start m memory) work k) (fitting.narrow (work_at v k)))

  pub work_fits : Fit work
  work_fits =
      record {
        i = work_narrow 0;
        last = work_narrow 1;
        eadd = work_narrow 2;
        skip = work_narrow 3;
        rest = λ (k : ℕ). work_narrow (suc (suc (suc (suc k))));
      }

  -- neither check finds anything
  pub emulator_passes : check_state (map width (registers_of v)) (values_of v m c) memory budget ≡ Ok tt
  emulator_passes =
      sound_state (map width (registers_of v)) (values_of v m c) memory budget s.acceptable
      (first_fit (registers_of v) working_registers (values_of v m c) (work_values work) (as_many v m c) fitting) s.within

  pub evaluator_passes : check (shipped v) registers memory budget list ≡ Ok tt
  evaluator_passes =
      rw (sound_state (widths_of (shipped v)) registers memory budget s.acceptable s.fitting s.within, le-ltb (length list) row_places s.roomy)

-- every good state of the machine with devices that fit, and all fitting working registers, make a start
devices_fitting : {c : Devices} → DevicesFit c → Fitting (map width device_registers) (device_values c)
devices_fitting f = record { narrow = at f }
  where
    at : {c : Devices} → DevicesFit c → (k : ℕ) → get_or (device_values c) k 0 < 2 ^ get_or (map width device_registers) k 0
    at f zero = f.key
    at f (suc zero) = f.keyboard
    at f (suc (suc zero)) = f.printer
    at f (suc (suc (suc zero))) = f.print
    at f (suc (suc (suc (suc zero)))) = f.mark
    at f (suc (suc (suc (suc (suc k))))) = lit< tt

machine_fits : (v : Variant) (m : Machine) (c : Devices) (memory : List ℕ) → Good (start m memory) → DevicesFit c → Fitting (map width (registers_of v)) (values_of v m c)
machine_fits plain m c memory g f = good_fitting m memory g
machine_fits devices m c memory g f = joined_fit machine_registers device_registers (values m) (device_values c) refl (good_fitting m memory g) (devices_fitting f)

fit_narrow : {w : Work} → Fit w → (k : ℕ) → get_or (work_values w) k 0 < 2 ^ get_or (map width working_registers) k 0
fit_narrow f zero = f.i
fit_narrow f (suc zero) = f.last
fit_narrow f (suc (suc zero)) = f.eadd
fit_narrow f (suc (suc (suc zero))) = f.skip
fit_narrow f (suc (suc (suc (suc k)))) = f.rest k

pub every_start : (v : Variant) (m : Machine) (c : Devices) (memory : List ℕ) (w : Work) (budget : ℕ) (list : List ℕ) → Good (start m memory) → DevicesFit c → Fit w
    → length (values_of v m c ++ work_values w) ≡ most_registers → budget ≤ budget_limit → row_places ≤ length list
    → Start v m c (values_of v m c ++ work_values w) memory budget list
every_start v m c memory w budget list g h f places within roomy =
    record {
      places = places;
      machine = machine_first v m c (work_values w);
      fitting =
          subst (λ (d : Description). Fitting (widths_of d) (values_of v m c ++ work_values w)) (sym (shipped_is v))
          (joined_fit (registers_of v) working_registers (values_of v m c) (work_values w) (as_many v m c) (machine_fits v m c memory g h) (record { narrow = fit_narrow f }));
      acceptable = g.memory;
      within = within;
      roomy = roomy;
    }
