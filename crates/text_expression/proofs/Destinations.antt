-- The laws of destinations: a name or a bit part that ends with the field, and an address whose bracket does.
-- Assumes nothing.
use mathlib.Core.Path.{◌≡◌, refl, sym, ap, ◌∙◌}
use mathlib.Core.Bool.{Bool, true, false, ◌&&◌}
use mathlib.Core.List.{List}
use Prim.Native.Nat.{ℕ, ◌+◌}
use native.Mathlib.Nat.{sub-zero}
use lib.Dec.{eqb, leb}
use lib.ListN.{length, get_or, take, drop}
use borrow.Author.Tests.{eq-eqb, ne_eqb}
use Rattle.std.specs.Prelude.{Option, Some, None}
use Rattle.characters.specs.Characters.{run_end, same}
use Rattle.characters.specs.Named.{Named}
use Rattle.characters.specs.declared.Class.TheVariants as class
use Rattle.text_bit_parts.specs.declared.Reference.{Reference}
use Rattle.text_bit_parts.specs.declared.Reference.TheVariants.{Whole, Part}
use Rattle.text_operators.specs.Operators.{weakest}
use Rattle.text_tokens.specs.Tokens.{skip, next, slice}
use Rattle.text_tokens.specs.Signs.{square_open, square_close, memory_token}
use Rattle.text_tokens.proofs.Tokens.{at_mark, off_mark}
use Rattle.text_bit_parts.specs.References.{reference_at}
use Rattle.text_code.specs.declared.Cursor.{Cursor}
use Rattle.text_expression.specs.declared.Place.{Place}
use Rattle.text_expression.specs.declared.Place.TheVariants.{Register, Bits, Word}
use Rattle.text_code.specs.Tree.{Expr, pieces, most_pieces, to_register, to_part, to_memory}
use Rattle.text_code.specs.Readings.{Reading, read, outside, DestinationReading, leads, astray}
use Rattle.text_grammar.specs.Grammar.{level, fuel}
use Rattle.text_expression.specs.Fields.{trimmed}
use Rattle.text_expression.specs.Expression.{of_name, of_address, memory_at, destination}
use Rattle.text_code.specs.Met.{Held, Meets, part}
use Rattle.text_expression.specs.Met.{Aims, Points, Addressed}
use Rattle.text_grammar.proofs.Calls.{at, faulty}
use Rattle.text_expression.proofs.WholeFields.{few_pieces}

-- names
module _ (s : List ℕ) (r w p : ℕ) where
  pub to_register_lem : p ≡ length s → of_name s (Some (Whole r w p)) ≡ leads (to_register r w)
  unfolding of_name
  to_register_lem e = rw (eq-eqb p (length s) e, of_name)

  pub not_register : (p ≡ length s → ⊥) → of_name s (Some (Whole r w p)) ≡ astray
  unfolding of_name
  not_register e = rw (ne_eqb p (length s) e, of_name)

  pub to_part_lem : (a b : ℕ) → p ≡ length s → of_name s (Some (Part r w a b p)) ≡ leads (to_part r w a b)
  unfolding of_name
  to_part_lem a b e = rw (eq-eqb p (length s) e, of_name)

  pub not_part : (a b : ℕ) → (p ≡ length s → ⊥) → of_name s (Some (Part r w a b p)) ≡ astray
  unfolding of_name
  not_part a b e = rw (ne_eqb p (length s) e, of_name)

-- an address
module _ (s : List ℕ) (t : Expr) (p : ℕ) where
  abbrev shut : Bool
  shut = eqb (next s p) square_close && eqb (skip s p + 1) (length s) && leb (pieces t) most_pieces

  pub is_address : shut ≡ true → of_address s (read t p) ≡ leads (to_memory t)
  unfolding of_address
  is_address e = rw (e, of_address)

  no_address : shut ≡ false → of_address s (read t p) ≡ astray
  unfolding of_address
  no_address e = rw (e, of_address)

module _ (s : List ℕ) (c from : Cursor) where
  abbrev ends : ℕ → Bool
  ends q = eqb (next s q) square_close && eqb (skip s q + 1) (length s) && leb c.pieces (from.pieces + most_pieces)

  -- the definition's test is the code's
  same_test : (t : Expr) (p w : ℕ) (before after : List ℕ) → Held t p (part c w) from before after → shut s t p ≡ ends c.place
  same_test t p w before after h =
      ap (λ (b : Bool). eqb (next s p) square_close && eqb (skip s p + 1) (length s) && b) (few_pieces from.pieces (pieces t) c.pieces h.pieces_are)
      ∙ ap ends (sym h.place_is)

  -- the code's test, by the place and the byte that it finds
  pub as_found : (q x : ℕ) → q ≡ skip s c.place → x ≡ get_or s q 0
      → ends c.place ≡ eqb x square_close && eqb (q + 1) (length s) && leb c.pieces (from.pieces + most_pieces)
  as_found q x e f = rw (f, e)

  pub addressed : ends c.place ≡ true → Addressed s c (Some (Word c)) from
  addressed u (read t p) w before after few less h =
      record {
        tree = t;
        is = is_address s t p (same_test t p w before after h ∙ u);
        pieces_are = h.pieces_are;
        words_are = h.words_are;
        code_is = h.code_is;
        words_few = few;
        pieces_few = less;
      }
  addressed u outside w before after few less h = absurd h

  pub unaddressed : ends c.place ≡ false → Addressed s c None from
  unaddressed u (read t p) w before after few less h = no_address s t p (same_test t p w before after h ∙ u)
  unaddressed u outside w before after few less h = absurd h

-- an address that has a fault
pub address_fault : (s : List ℕ) (x : Reading) (from : Cursor) (before after : List ℕ) → Meets x None from before after → of_address s x ≡ astray
unfolding of_address
address_fault s x from before after m = ap (of_address s) (faulty x from before after m)

-- a destination that is known, from a cursor whose place doesn't count
pub aimed : (r : Option Place) (x y : DestinationReading) (s : List ℕ) (from : Cursor) (q : ℕ) (before after : List ℕ) → x ≡ y → Aims r y s (at from q) before after → Aims r x s from before after
aimed (Some (Register r w)) x y s from q before after e m = (e ∙ m.0, m.1)
aimed (Some (Bits r w a b)) x y s from q before after e m = (e ∙ m.0, m.1)
aimed (Some (Word c)) x y s from q before after e m =
    record { tree = m.tree; is = e ∙ m.is; pieces_are = m.pieces_are; words_are = m.words_are; code_is = m.code_is; words_few = m.words_few; pieces_few = m.pieces_few }
aimed None x y s from q before after e m = e ∙ m

-- the destination that a name is, which leaves the table as it was
pub pointed : (r : Option Place) (x y : DestinationReading) (s : List ℕ) (from : Cursor) (before : List ℕ) → x ≡ y → Points r y → Aims r x s from before before
pointed (Some (Register r w)) x y s from before e m = (e ∙ m, refl)
pointed (Some (Bits r w a b)) x y s from before e m = (e ∙ m, refl)
pointed (Some (Word c)) x y s from before e m = absurd m
pointed None x y s from before e m = e ∙ m

module _ (rs : List Named) (s : List ℕ) where
  -- behind an M, by the place where the next token starts and the byte there
  module _ (end start x : ℕ) (starts : start ≡ skip s end) (here : x ≡ get_or s start 0) where
    pub opens : x ≡ square_open → memory_at rs s end ≡ of_address s (level (fuel s) rs s 0 weakest (start + 1))
    unfolding memory_at
    opens h = rw (starts, at_mark s end start x square_open starts here h, memory_at)

    pub bare : (x ≡ square_open → ⊥) → memory_at rs s end ≡ astray
    unfolding memory_at
    bare h = rw (off_mark s end start x square_open starts here h, memory_at)

  -- a field, by its first token and the place after it
  module _ (trims : trimmed s ≡ true) (end : ℕ) (token : List ℕ) (ends : end ≡ run_end class.Word s 0) (is : token ≡ take end (drop 0 s)) where
    token_is : (b : Bool) → same token memory_token ≡ b → same (slice s 0 (run_end class.Word s 0)) memory_token ≡ b
    token_is b h =
        ap (λ (z : List ℕ). same z memory_token) (ap (λ (k : ℕ). take k (drop 0 s)) (sub-zero (run_end class.Word s 0) ∙ sym ends) ∙ sym is) ∙ h

    pub to_memory_lem : same token memory_token ≡ true → destination rs s ≡ memory_at rs s end
    unfolding destination
    to_memory_lem h = rw (ends, trims, token_is true h, destination)

    pub to_name : same token memory_token ≡ false → (x : Option Reference) → x ≡ reference_at rs s 0 → destination rs s ≡ of_name s x
    unfolding destination
    to_name h x i = rw (i, trims, token_is false h, destination)

  pub not_trimmed : trimmed s ≡ false → destination rs s ≡ astray
  unfolding destination
  not_trimmed t = rw (t, destination)
