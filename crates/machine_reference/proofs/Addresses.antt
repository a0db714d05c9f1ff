-- Addresses stay within memory, and working one out leaves memory acceptable; the two ways through working one out.
-- Assumes nothing.
use mathlib.Core.List.{List}
use mathlib.Core.Path.{◌≡◌, refl, sym, ap, ◌∙◌}
use mathlib.Core.Bool.{Bool, true, false, ◌&&◌}
use Prim.Native.Nat.{ℕ, ◌/◌, ◌^◌, ◌<◌}
use native.Mathlib.Omega.{arith}
use borrow.Author.Tests.{leb-true, leb-false, eq-eqb, ne_eqb}
use lib.Dec.{eqb, leb}
use lib.ListN.{get_or}
use Rattle.word.specs.Word.{word_bits, bits}
use Rattle.word.specs.Choice.{on, pick}
use Rattle.word.proofs.Choice.{pick_either}
use Rattle.word.proofs.Next.{next_lt}
use Rattle.state.specs.Acceptable.{Acceptable}
use Rattle.state.proofs.Accepted.{store_acceptable}
use Rattle.machine_state.specs.Instruction.{ib, pb, pa}
use Rattle.machine_reference.specs.Address.{first_address, is_index, indexed, effective, after_indexing}
use Rattle.machine_reference.specs.Addressed.{Addressed}

pub pa_lt : (i : ℕ) → pa i < 2 ^ 7
pa_lt i = omega arith

pub page_lt : (i last : ℕ) → pick (on (pb i)) (bits word_bits 0 4 last) 0 < 2 ^ 5
page_lt i last = pick_either (λ (n : ℕ). n < 2 ^ 5) (on (pb i)) (omega arith) (omega arith)

pub first_address_lt : (i last : ℕ) → first_address i last < 2 ^ word_bits
unfolding first_address
first_address_lt i last = let h = page_lt i last in omega arith

-- the addresses from 0010 to 0017 differ in their last octal digit alone, and the code tests the digits before it
pub index_is : (a : ℕ) → is_index a ≡ eqb (a / 8) 1
index_is a = go (leb 0o10 a) (leb a 0o17) refl refl
  where
    go : (low high : Bool) → leb 0o10 a ≡ low → leb a 0o17 ≡ high → low && high ≡ eqb (a / 8) 1
    go true true p q = let l = leb-true 0o10 a p in let h = leb-true a 0o17 q in sym (eq-eqb (a / 8) 1 (omega (arith, l, h)))
    go true false p q = let h = leb-false a 0o17 q in sym (ne_eqb (a / 8) 1 (λ e. omega (arith, e, h)))
    go false high p q = let l = leb-false 0o10 a p in sym (ne_eqb (a / 8) 1 (λ e. omega (arith, e, l)))

indexed_acceptable : (a : ℕ) {memory : List ℕ} → Acceptable memory → Acceptable (indexed a memory)
unfolding indexed
indexed_acceptable a {memory} m =
    pick_either Acceptable (is_index a) (store_acceptable a (next_lt (get_or memory a 0)) m) m

pub effective_lt : (i last : ℕ) {memory : List ℕ} → Acceptable memory → effective i last memory < 2 ^ word_bits
unfolding effective
effective_lt i last m =
    pick_either (λ (n : ℕ). n < 2 ^ word_bits) (on (ib i))
    ((indexed_acceptable (first_address i last) m).words (first_address i last))
    (first_address_lt i last)

pub after_indexing_acceptable : (i last : ℕ) {memory : List ℕ} → Acceptable memory → Acceptable (after_indexing i last memory)
unfolding after_indexing
after_indexing_acceptable i last m = pick_either Acceptable (on (ib i)) (indexed_acceptable (first_address i last) m) m

module _ (i last first : ℕ) (before : List ℕ) (found : first ≡ first_address i last) where
  -- ib = 1: the word at the first address, after auto-indexing
  pub indirect : (after : List ℕ) (e : ℕ) → on (ib i) ≡ true → after ≡ indexed first before → e ≡ get_or after first 0 → Addressed i last before after e
  unfolding effective after_indexing
  indirect after e set indexing read =
      record {
        address =
            read
            ∙ ap (λ (m : List ℕ). get_or m first 0) indexing
            ∙ ap (λ (a : ℕ). get_or (indexed a before) a 0) found
            ∙ sym (ap (λ (t : Bool). pick t (get_or (indexed (first_address i last) before) (first_address i last) 0) (first_address i last)) set);
        memory =
            indexing
            ∙ ap (λ (a : ℕ). indexed a before) found
            ∙ sym (ap (λ (t : Bool). pick t (indexed (first_address i last) before) before) set);
      }

  -- ib = 0: the first address itself
  pub direct : on (ib i) ≡ false → Addressed i last before before first
  unfolding effective after_indexing
  direct clear =
      record {
        address = found ∙ sym (ap (λ (t : Bool). pick t (get_or (indexed (first_address i last) before) (first_address i last) 0) (first_address i last)) clear);
        memory = sym (ap (λ (t : Bool). pick t (indexed (first_address i last) before) before) clear);
      }
