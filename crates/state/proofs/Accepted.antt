-- A check finds a state fit exactly where it is acceptable: what the engines may rely on after their checks, and that no acceptable
-- state is turned down. A store of what fits keeps a state so.
-- Assumes nothing.
use mathlib.Core.Path.{◌≡◌, refl, ◌∙◌}
use mathlib.Core.Bool.{Bool, true, false}
use mathlib.Core.List.{List, [], ◌∷◌}
use Prim.Native.Nat.{ℕ, zero, suc, ◌^◌, ◌≤◌, ◌<◌}
use native.Mathlib.Decide.{dec_lt}
use native.Mathlib.Omega.{arith}
use lib.ListN.{length, get_or, set, replicate, length-set, get_or-eq_default}
use lib.Dec.{eqb, ltb}
use lib.Pow.{pow_pos}
use borrow.Author.Tests.{eqb-true, ltb-true, ltb-false, eq-eqb, lt-ltb, le-ltb}
use Rattle.word.specs.Choice.{pick}
use Rattle.word.specs.Word.{word_bits}
use Rattle.state.specs.Limits.{memory_words, budget_limit, row_places}
use Rattle.std.specs.Prelude.{Some, None, Ok, Err}
use Rattle.std.specs.declared.option.Option.{Option}
use Rattle.state.specs.Checks.{first_too_wide, refused_at, first_large_word, first_wide_register, check_memory, check_registers, check_budget, check_state, check_row_list}
use Rattle.state.specs.Refusals.{Verdict, or_else}
use Rattle.state.specs.Acceptable.{Acceptable, Fitting}
use Rattle.state.specs.declared.Refusal.{Refusal}
use Rattle.state.specs.declared.Refusal.TheVariants.{MemoryLength, Word, Register, Budget, RowList}
use Rattle.state.proofs.Scan.{all_fit, none_too_wide}

-- a verdict by a test is fit only on the side that is
fit_false : (b : Bool) (why : Refusal) (other : Verdict) → pick b (Err why) other ≡ Ok tt → (b ≡ false) × (other ≡ Ok tt)
fit_false true why other e = (cc, cc)
fit_false false why other e = (refl, e)

fit_true : (b : Bool) (other : Verdict) (why : Refusal) → pick b other (Err why) ≡ Ok tt → (b ≡ true) × (other ≡ Ok tt)
fit_true true other why e = (refl, e)
fit_true false other why e = (cc, cc)

-- and one by a place, only where there is none
fit_nowhere : (why : ℕ → Refusal) (place : Option ℕ) → refused_at why place ≡ Ok tt → place ≡ None
fit_nowhere why (Some place) e = cc
fit_nowhere why None e = refl

-- a scan that found nothing bounds every place, also past the list
narrow_all : (width : ℕ → ℕ) (l : List ℕ) → first_too_wide width 0 l ≡ None → (k : ℕ) → get_or l k 0 < 2 ^ width k
narrow_all width l h k =
    elim (dec_lt k (length l)) [
      | yes q ↦ ltb-true _ _ (all_fit width l h k q)
      | no q ↦ (let past : length l ≤ k = omega arith in rw (get_or-eq_default l 0 past) (pow_pos (width k)))
    ]

pub memory_acceptable : (memory : List ℕ) → check_memory memory ≡ Ok tt → Acceptable memory
memory_acceptable memory e =
    let first = fit_true (eqb (length memory) memory_words) _ MemoryLength e in
    record { size = eqb-true _ _ first.0; words = narrow_all (λ k. word_bits) memory (fit_nowhere Word (first_large_word memory) first.1) }

pub acceptable_memory : (memory : List ℕ) → Acceptable memory → check_memory memory ≡ Ok tt
acceptable_memory memory a =
    simp (eq-eqb _ _ a.size, none_too_wide (λ k. word_bits) memory (λ k q. lt-ltb _ _ (a.words k)))

pub registers_fitting : (widths values : List ℕ) → check_registers widths values ≡ Ok tt → Fitting widths values
registers_fitting widths values e =
    record { narrow = narrow_all (λ k. get_or widths k 0) values (fit_nowhere Register (first_wide_register widths values) e) }

pub fitting_registers : (widths values : List ℕ) → Fitting widths values → check_registers widths values ≡ Ok tt
fitting_registers widths values f =
    simp (none_too_wide (λ k. get_or widths k 0) values (λ k q. lt-ltb _ _ (f.narrow k)))

pub budget_within : (budget : ℕ) → check_budget budget ≡ Ok tt → budget ≤ budget_limit
budget_within budget e = ltb-false _ _ (fit_false (ltb budget_limit budget) Budget (Ok tt) e).0

pub within_budget : (budget : ℕ) → budget ≤ budget_limit → check_budget budget ≡ Ok tt
within_budget budget h = simp (le-ltb _ _ h)

pub row_list_long : (places : ℕ) → check_row_list places ≡ Ok tt → row_places ≤ places
row_list_long places e = ltb-false _ _ (fit_false (ltb places row_places) RowList (Ok tt) e).0

-- where two checks in order find nothing, neither does
pub both_fit : (a b : Verdict) → or_else a b ≡ Ok tt → (a ≡ Ok tt) × (b ≡ Ok tt)
both_fit (Ok fit) b e = (refl, e)
both_fit (Err why) b e = (cc, cc)

-- the checks of memory, registers and budget together
pub state_sound : (widths values memory : List ℕ) (budget : ℕ) → check_state widths values memory budget ≡ Ok tt
    → Acceptable memory × Fitting widths values × (budget ≤ budget_limit)
state_sound widths values memory budget e =
    let first = both_fit (check_memory memory) (or_else (check_registers widths values) (check_budget budget)) e in
    let second = both_fit (check_registers widths values) (check_budget budget) first.1 in
    (memory_acceptable memory first.0, registers_fitting widths values second.0, budget_within budget second.1)

pub sound_state : (widths values memory : List ℕ) (budget : ℕ) → Acceptable memory → Fitting widths values → budget ≤ budget_limit
    → check_state widths values memory budget ≡ Ok tt
sound_state widths values memory budget a f h =
    rw (acceptable_memory memory a, fitting_registers widths values f, within_budget budget h)

-- what holds of the value at a place, and of one that is put there, holds after it
pub set_either : (P : ℕ → ℕ → Type 0) (l : List ℕ) (a k x : ℕ) → P k (get_or l k 0) → P a x → P k (get_or (set l a x) k 0)
set_either P [] a k x h q = h
set_either P (y ∷ ys) zero zero x h q = q
set_either P (y ∷ ys) zero (suc k) x h q = h
set_either P (y ∷ ys) (suc a) zero x h q = h
set_either P (y ∷ ys) (suc a) (suc k) x h q = set_either (λ n. P (suc n)) ys a k x h q

-- a list of zeros has 0 at every place, also past its end
pub zeros : (n k : ℕ) → get_or {A = ℕ} (replicate n 0) k 0 ≡ 0
zeros zero k = refl
zeros (suc n) zero = refl
zeros (suc n) (suc k) = zeros n k

-- a store of a word keeps memory acceptable, and one of a value that fits its register keeps registers fitting
pub store_acceptable : {memory : List ℕ} (a : ℕ) {x : ℕ} → x < 2 ^ word_bits → Acceptable memory → Acceptable (set memory a x)
store_acceptable {memory} a {x} h m =
    record { size = length-set memory a x ∙ m.size; words = λ k. set_either (λ place y. y < 2 ^ word_bits) memory a k x (m.words k) h }

pub store_fitting : {widths values : List ℕ} (a : ℕ) {x : ℕ} → x < 2 ^ get_or widths a 0 → Fitting widths values → Fitting widths (set values a x)
store_fitting {widths} {values} a {x} h f =
    record { narrow = λ k. set_either (λ place y. y < 2 ^ get_or widths place 0) values a k x (f.narrow k) h }
