-- The widths of all places, how a loop fills them in, and what the checks make of them.
-- Assumes nothing.
use mathlib.Core.Path.{◌≡◌, refl, sym, ap, subst, ◌∙◌}
use mathlib.Core.List.{List}
use Prim.Native.Nat.{ℕ, zero, suc, ◌+◌, ◌≤◌, ◌<◌}
use native.Mathlib.Nat.{zero-add, add-zero}
use native.Mathlib.Omega.{arith}
use lib.Dec.{eqb, ltb}
use lib.ListN.{length, get_or, set, length-set, get_or-eq_default}
use lib.Seq.{ext_get_or, get_or-set_same, get_or-set_other}
use borrow.Author.Tests.{ltb-true, ltb-false, eqb-true, eqb-false}
use Rattle.word.specs.Word.{widest}
use Rattle.text_limits.specs.Limits.{most_registers}
use Rattle.text_names.specs.declared.Dictionary.{Dictionary}
use Rattle.laws.proofs.Tests.{by_test}
use Rattle.evaluator.specs.Padded.{width_at, widths_from, padded}

-- n widths from place k on: their number, and each of them
from_length : (d : Dictionary) (n k : ℕ) → length (widths_from d k n) ≡ n
unfolding widths_from
from_length d zero k = refl
from_length d (suc n) k = ap suc (from_length d n (suc k))

from_at : (d : Dictionary) (n k i : ℕ) → i < n → get_or (widths_from d k n) i 0 ≡ width_at d (k + i)
unfolding widths_from
from_at d zero k i h = absurd (omega arith)
from_at d (suc n) k zero h = ap (width_at d) (sym (add-zero k))
from_at d (suc n) k (suc i) h = from_at d n (suc k) i (omega arith) ∙ ap (width_at d) {x = suc k + i} {y = k + suc i} (omega arith)

padded_length : (d : Dictionary) → length (padded d) ≡ most_registers
padded_length d = from_length d most_registers 0

pub padded_at : (d : Dictionary) (k : ℕ) → k < most_registers → get_or (padded d) k 0 ≡ width_at d k
padded_at d k h = from_at d most_registers 0 k h ∙ ap (width_at d) (zero-add k)

pub padded_past : (d : Dictionary) (k : ℕ) → most_registers ≤ k → get_or (padded d) k 0 ≡ 0
padded_past d k h = get_or-eq_default (padded d) 0 (omega (arith, padded_length d, h))

pub padded_le : (d : Dictionary) (w : List ℕ) → w ≡ padded d → ((k : ℕ) → width_at d k ≤ widest) → (k : ℕ) → get_or w k 0 ≤ widest
padded_le d w e h k =
    subst (λ (l : List ℕ). get_or l k 0 ≤ widest) (sym e)
    (by_test (ltb k most_registers)
    (λ t. subst (λ (n : ℕ). n ≤ widest) (sym (padded_at d k (ltb-true k most_registers t))) (h k))
    (λ t. subst (λ (n : ℕ). n ≤ widest) (sym (padded_past d k (ltb-false k most_registers t))) (omega arith)))

-- the widths so far
pub record Filled (d : Dictionary) (i : ℕ) (w : List ℕ) : Type 0 where
  pub within : i ≤ most_registers
  pub size : length w ≡ most_registers
  pub are : (k : ℕ) → k < i → get_or w k 0 ≡ width_at d k

pub filled_next : (d : Dictionary) (i : ℕ) (w : List ℕ) (x : ℕ) → Filled d i w → i < most_registers → x ≡ width_at d i → Filled d (i + 1) (set w i x)
filled_next d i w x f h e =
    record {
      within = omega arith;
      size = length-set w i x ∙ f.size;
      are = λ k q.
          by_test (eqb k i)
          (λ t.
          let j : k ≡ i = eqb-true k i t in
          ap (λ (m : ℕ). get_or (set w i x) m 0) j ∙ get_or-set_same w i x 0 (omega (arith, f.size)) ∙ e ∙ ap (width_at d) (sym j))
          (λ t. get_or-set_other w i k x 0 (eqb-false k i t) ∙ f.are k (below k q (eqb-false k i t)));
    }
  where
    below : (k : ℕ) → k < i + 1 → (k ≡ i → ⊥) → k < i
    below k q n = omega arith

pub filled_end : (d : Dictionary) (i : ℕ) (w : List ℕ) → Filled d i w → most_registers ≤ i → w ≡ padded d
filled_end d i w f h =
    ext_get_or 0 w (padded d) (f.size ∙ sym (padded_length d)) (λ k q. f.are k (omega (arith, f.size)) ∙ sym (padded_at d k (omega (arith, f.size))))
