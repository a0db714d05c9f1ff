-- The bytes of a line `input`, one after the other.
-- Assumes nothing.
use mathlib.Core.Path.{◌≡◌, sym, ap, ◌∙◌}
use mathlib.Core.Bool.{Bool, true, false, ◌&&◌}
use mathlib.Core.List.{List, [], ◌∷◌, ◌++◌}
use Prim.Native.Nat.{ℕ, zero, suc, ◌+◌, ◌*◌, ◌<◌}
use native.Mathlib.Numerals.{add-one}
use native.Mathlib.Decide.{dec_lt}
use native.Mathlib.Omega.{arith}
use lib.Dec.{eqb, leb}
use lib.ListN.{length, set, take}
use lib.Seq.{take-suc-set}
use Rattle.laws.proofs.Joined.{and_left, and_right}
use Rattle.desk_entry.specs.Octets.{input_bytes, octet_at, is_octet, are_octets, octets, octets_in, is_input}

module _ (s : List ℕ) where
  -- one more
  pub are_more : (k : ℕ) → are_octets s (k + 1) ≡ are_octets s k && is_octet s (4 * k)
  unfolding are_octets
  are_more k = ap (are_octets s) (add-one k)

  pub octets_more : (k : ℕ) (bytes : List ℕ) → k < length bytes → take k bytes ≡ octets s k
      → take (k + 1) (set bytes k (octet_at s (4 * k))) ≡ octets s (k + 1)
  unfolding octets
  octets_more k bytes h e =
      ap (λ (n : ℕ). take n (set bytes k (octet_at s (4 * k)))) (add-one k)
      ∙ take-suc-set bytes k (octet_at s (4 * k)) h
      ∙ ap (λ (l : List ℕ). l ++ octet_at s (4 * k) ∷ []) e
      ∙ sym (ap (octets s) (add-one k))

  -- each of them
  pub is_byte : (n k : ℕ) → are_octets s n ≡ true → k < n → is_octet s (4 * k) ≡ true
  unfolding are_octets
  is_byte zero k t h = absurd (omega arith)
  is_byte (suc n) k t h =
      elim (dec_lt k n) [
        | yes l ↦ is_byte n k (and_left (are_octets s n) (is_octet s (4 * n)) t) l
        | no l ↦
            let last : k ≡ n = omega arith in
            ap (λ (j : ℕ). is_octet s (4 * j)) last ∙ and_right (are_octets s n) (is_octet s (4 * n)) t
      ]

  -- a field by its length, then by its bytes
  abbrev pub sized : Bool
  sized = eqb (4 * octets_in s) (length s + 1) && leb (octets_in s) input_bytes

  pub by_bytes : (t : Bool) → sized ≡ true → are_octets s (octets_in s) ≡ t → is_input s ≡ t
  unfolding is_input
  by_bytes t e f = rw (e, f)

  pub by_length : sized ≡ false → is_input s ≡ false
  unfolding is_input
  by_length e = rw e
