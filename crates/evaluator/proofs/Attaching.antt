-- The devices' registers, looked for among a description's: one after the other, with their widths.
-- Assumes nothing.
use mathlib.Core.Path.{◌≡◌, refl, sym, ap, ap₂, ◌∙◌}
use mathlib.Core.Bool.{Bool, true, false, ◌&&◌, and-true, and-false, and_assoc}
use mathlib.Core.List.{List, [], ◌∷◌}
use Prim.Native.Nat.{ℕ, zero, suc, ◌+◌, ◌≤◌, ◌<◌}
use native.Mathlib.Nat.{zero-add}
use native.Mathlib.Numerals.{add-one}
use native.Mathlib.Omega.{arith}
use lib.Dec.{eqb, ltb}
use lib.ListN.{length, get_or, set, take, replicate, length-set, get_or-map}
use lib.Seq.{sets, take_all}
use borrow.Author.Tests.{ltb-true, lt-ltb}
use Rattle.laws.proofs.Tests.{by_test}
use Rattle.laws.proofs.Lists.{any_default, sets_more}
use Rattle.characters.specs.Named.{Named, find, found}
use Rattle.characters.proofs.Searches.{found_at, found_within, found_none}
use Rattle.devices.specs.Devices.{device_registers}
use Rattle.characters.specs.Table.{nameless}
use Rattle.text_names.specs.Dictionaries.{entries, number_at}
use Rattle.text_names.specs.declared.Dictionary.{Dictionary}
use Rattle.text_names.proofs.Entries.{entries_length}
use Rattle.text_bit_parts.specs.Refers.{width_in}
use Rattle.text_bit_parts.proofs.Listed.{width_is}
use Rattle.rows_cycles.specs.Devices.{has, has_all}
use Rattle.rows_cycles.proofs.Fitting.{places_of}
use Rattle.std.specs.Prelude.{Some, None}
use Rattle.evaluator.specs.Lent.{attached}

-- one register more
has_more : (rs names : List Named) (k : ℕ) → k < length names
    → has_all rs (take (suc k) names) ≡ has_all rs (take k names) && has rs (get_or names k nameless)
has_more rs [] k h = absurd (omega arith)
has_more rs (r ∷ more) zero h = and-true (has rs r)
has_more rs (r ∷ more) (suc k) h =
    ap (λ (b : Bool). has rs r && b) (has_more rs more k (omega arith))
    ∙ sym (and_assoc (has rs r) (has_all rs (take k more)) (has rs (get_or more k nameless)))

-- one that is missing
all_but : (rs names : List Named) (k : ℕ) → k < length names → has rs (get_or names k nameless) ≡ false → has_all rs names ≡ false
all_but rs [] k h e = absurd (omega arith)
all_but rs (r ∷ more) zero h e = rw e
all_but rs (r ∷ more) (suc k) h e = rw (all_but rs more k (omega arith) e, and-false (has rs r))

module _ (text : List ℕ) (d : Dictionary) where
  abbrev rs : List Named
  rs = entries text d

  abbrev there : List ℕ
  there = places_of rs device_registers

  -- a register of that name and width, by its place and the dictionary's number
  has_told : (r : Named) (place : ℕ) → place ≡ find r.name rs → ltb place d.count && eqb (number_at d place) r.number ≡ has rs r
  has_told r place e =
      by_test (ltb place d.count)
      (λ t. ap (λ (w : ℕ). ltb place d.count && eqb w r.number) (sym (width_is text d place (ltb-true place d.count t))))
      (λ t. ap (λ (b : Bool). b && eqb (number_at d place) r.number) t ∙ sym (ap (λ (b : Bool). b && eqb (width_in rs place) r.number) t))
      ∙ ap (λ (n : ℕ). ltb place n && eqb (width_in rs place) r.number) (sym (entries_length text d))
      ∙ ap (has_at r) e
    where
      has_at : Named → ℕ → Bool
      has_at r p = ltb p (length rs) && eqb (width_in rs p) r.number

  -- k of them
  pub record Attaching (k : ℕ) (places : List ℕ) : Type 0 where
    pub within : k ≤ length device_registers
    pub size : length places ≡ length device_registers
    pub are : places ≡ sets (replicate (length device_registers) 0) 0 (take k there)
    pub all : has_all rs (take k device_registers) ≡ true

  pub attaching_start : Attaching 0 (replicate (length device_registers) 0)
  attaching_start = record { within = omega arith; size = refl; are = refl; all = refl }

  -- a register of the devices that isn't there
  pub attaching_absent : (k : ℕ) (r : Named) (name : List ℕ) → k < length device_registers → r ≡ get_or device_registers k nameless → name ≡ r.name
      → found name rs ≡ None → None ≡ attached rs
  attaching_absent k r name h e n absent =
      let missing : has rs r ≡ false = rw (found_none r.name rs (rw n at absent)) in
      rw (all_but rs device_registers k h (sym (ap (has rs) e) ∙ missing))

  -- one that is there, and what the code finds of it
  module _ (k : ℕ) (r : Named) (name : List ℕ) (place : ℕ) (fits : Bool) (h : k < length device_registers) (e : r ≡ get_or device_registers k nameless)
      (n : name ≡ r.name) (p : found name rs ≡ Some place) (f : fits ≡ eqb (number_at d place) r.number) where
    here : place ≡ find r.name rs
    here = sym (found_at name rs p).1 ∙ ap (λ (s : List ℕ). find s rs) n

    is_there : fits ≡ has rs (get_or device_registers k nameless)
    is_there =
        f
        ∙ ap (λ (b : Bool). b && eqb (number_at d place) r.number) (sym (lt-ltb place d.count (omega (arith, found_within name rs p, entries_length text d))))
        ∙ has_told r place here
        ∙ ap (has rs) e

    pub attaching_next : (places : List ℕ) → Attaching k places → fits ≡ true → Attaching (k + 1) (set places k place)
    attaching_next places a t =
        record {
          within = omega arith;
          size = length-set places k place ∙ a.size;
          are =
              ap₂ (λ (l : List ℕ) (x : ℕ). set l k x) a.are (here ∙ ap (λ (x : Named). find x.name rs) e ∙ sym at_k)
              ∙ ap (λ (j : ℕ). set (sets zeros 0 (take k there)) j (get_or there k 0)) (sym (zero-add k))
              ∙ sets_more zeros there 0 k h;
          all =
              ap (λ (j : ℕ). has_all rs (take j device_registers)) (add-one k)
              ∙ has_more rs device_registers k h
              ∙ ap₂ ◌&&◌ a.all (sym is_there ∙ t);
        }
      where
        zeros : List ℕ
        zeros = replicate (length device_registers) 0

        at_k : get_or there k 0 ≡ find (get_or device_registers k nameless).name rs
        at_k =
            any_default there k 0 (find [] rs) h
            ∙ get_or-map (λ (x : Named). find x.name rs) device_registers k nameless

    pub attaching_none : fits ≡ false → None ≡ attached rs
    attaching_none t = rw (all_but rs device_registers k h (sym is_there ∙ t))

  pub attaching_end : (k : ℕ) (places : List ℕ) → Attaching k places → length device_registers ≤ k → Some places ≡ attached rs
  attaching_end k places a h =
      let all : has_all rs device_registers ≡ true = sym (ap (has_all rs) (take_all k device_registers h)) ∙ a.all in
      let are : places ≡ there = a.are ∙ ap (sets (replicate (length device_registers) 0) 0) (take_all k there h) in
      rw (all, are)
