-- What the grammar reads is formed, whatever the field is: of each of its functions in turn, by induction on the calls.
-- Assumes nothing.
use mathlib.Core.Path.{◌≡◌, refl, sym, ap, subst, ◌∙◌}
use mathlib.Core.Bool.{true, false, ◌&&◌}
use mathlib.Core.List.{List}
use Prim.Native.Nat.{ℕ, zero, suc, ◌+◌, ◌≤◌, ◌<◌}
use native.Mathlib.Omega.{arith}
use lib.Dec.{eqb, leb, ltb}
use lib.ListN.{length}
use borrow.Author.Tests.{ltb-true, ltb-false, leb-true, eqb-true, ne_eqb}
use Rattle.std.specs.Prelude.{Option, Some, None}
use Rattle.word.specs.Word.{widest}
use Rattle.characters.specs.Characters.{is_letter, run_end, same}
use Rattle.text_constants.specs.Constants.{constant_at, decimal_at}
use Rattle.characters.specs.Named.{Named}
use Rattle.characters.specs.declared.Class.TheVariants as class
use Rattle.text_constants.specs.declared.Number.{Number}
use Rattle.text_constants.specs.declared.Constant.{Constant}
use Rattle.laws.proofs.Joined.{and_right}
use Rattle.laws.proofs.Tests.{by_test, by_case}
use Rattle.text_constants.proofs.Widths.{Fitting, constant_fits}
use Rattle.text_operators.specs.declared.Entry.{Entry}
use Rattle.text_bit_parts.specs.declared.Reference.{Reference}
use Rattle.text_bit_parts.specs.declared.Reference.TheVariants.{Whole, Part}
use Rattle.text_operators.specs.Operators.{table, no_entry, row_of, entry_in, weakest, strongest, rotations}
use Rattle.text_tokens.specs.Tokens.{skip, next, slice, operator_at, after_token}
use Rattle.text_tokens.specs.Signs.{round_open, round_close, square_open, square_close, not_token, memory_token}
use Rattle.text_bit_parts.specs.References.{reference_at}
use Rattle.text_bit_parts.proofs.Onward.{whole_known, bits_known}
use Rattle.text_code.specs.Tree.{Expr, register, bit_part, constant, binary, width, pieces, largest_count, most_pieces, to_part}
use Rattle.text_code.specs.Readings.{Reading, read, outside, leads, limited, of_reference, of_constant, not_of, closed, rotation_of, joined}
use Rattle.text_grammar.specs.Says.{deepest}
use Rattle.text_grammar.specs.Grammar.{level, more, operation, operand, worded, negated, enclosed, fuel}
use Rattle.text_expression.specs.Fields.{trimmed}
use Rattle.text_expression.specs.Expression.{whole, expression, of_name, of_address, memory_at, destination}
use Rattle.text_code.specs.Formed.{is_of, Formed, Accepted, Reads, FormedDestination, LeadsTo}
use Rattle.text_operators.proofs.Rows.{row_is, no_row}
use Rattle.text_code.proofs.Formed.{formed_narrow}

-- a row's operator is of that row's strength; past the table stands Or, the weakest
strength_is : (row k : ℕ) → weakest < k → is_of k (entry_in row).operator ≡ eqb (entry_in row).strength k
strength_is row k h =
    by_test (ltb row (length table))
    (λ t. ap (λ (i : ℕ). eqb (entry_in i).strength k) (row_is row (ltb-true row (length table) t)))
    (λ t. ap (λ (e : Entry). eqb (entry_in (row_of e.operator)).strength k) (none t) ∙ weaker ∙ ap (λ (e : Entry). eqb e.strength k) (sym (none t)))
  where
    none : ltb row (length table) ≡ false → entry_in row ≡ no_entry
    none t = no_row row (ltb-false row (length table) t)

    weaker : eqb 1 k ≡ eqb 0 k
    weaker = ne_eqb 1 k (λ e. omega arith) ∙ sym (ne_eqb 0 k (λ e. omega arith))

module _ (rs : List Named) where
  abbrev Good : Reading → Type 0
  Good x = Reads (Formed rs) x

  -- what the grammar makes of a name, a constant or the trees that it has read
  limited_formed : (t : Expr) (p : ℕ) → (width t ≤ widest → Formed rs t) → Good (limited t p)
  unfolding limited
  limited_formed t p f = by_case Good (leb (width t) widest) (λ e. f (leb-true (width t) widest e)) (λ e. tt)

  reference_formed : (s : List ℕ) (at : ℕ) (x : Option Reference) → reference_at rs s at ≡ x → Good (of_reference x)
  unfolding of_reference
  reference_formed s at (Some (Whole r w p)) e =
      let k = whole_known rs s at r w p e in
      limited_formed (register r w) p (λ h. record { listed = k.0; width_is = k.1; narrow = h })
  reference_formed s at (Some (Part r w a b p)) e =
      let k = bits_known rs s at r w a b p e in
      limited_formed (bit_part r w a b) p (λ h. record { listed = k.0; width_is = k.1; ordered = k.2; below = k.3; narrow = h })
  reference_formed s at None e = tt

  constant_formed : (x : Option Constant) → Fitting x → Good (of_constant x)
  unfolding of_constant
  constant_formed (Some d) h = limited_formed (constant d.width d.value) d.place (λ n. record { some = h.some; narrow = n; fits = h.fits })
  constant_formed None h = tt

  not_formed : (x : Reading) → Good x → Good (not_of x)
  unfolding not_of
  not_formed (read t p) h = h
  not_formed outside h = tt

  closed_formed : (s : List ℕ) (close : ℕ) (x : Reading) → Good x → Good (closed s close x)
  unfolding closed
  closed_formed s close (read t p) h =
      by_case Good (eqb (next s p) close) (λ e. by_case (Formed rs) (eqb close square_close) (λ u. h) (λ u. h)) (λ e. tt)
  closed_formed s close outside h = tt

  rotation_formed : (row : ℕ) (l : Expr) (n : Option Number) → is_of rotations (entry_in row).operator ≡ true → Formed rs l → Good (rotation_of row l n)
  unfolding rotation_of
  rotation_formed row l (Some d) o h = by_case Good (leb d.value largest_count) (λ e. record { rotation = o; few = leb-true d.value largest_count e; side = h }) (λ e. tt)
  rotation_formed row l None o h = tt

  joined_formed : (row : ℕ) (l : Expr) (x : Reading) → is_of strongest (entry_in row).operator ≡ false → is_of rotations (entry_in row).operator ≡ false
      → Formed rs l → Good x → Good (joined row l x)
  unfolding joined
  joined_formed row l (read r p) n o h g =
      limited_formed (binary (entry_in row).operator l r) p (λ w. record { no_prefix = n; no_rotation = o; left = h; right = g; narrow = w })
  joined_formed row l outside n o h g = tt

  module _ (s : List ℕ) where
    mutual
      unfolding level more operation operand worded negated enclosed

      level_formed : (f d k at : ℕ) → Good (level f rs s d k at)
      level_formed zero d k at = tt
      level_formed (suc f) d k at =
          by_case Good (eqb k strongest)
          (λ t. operand_formed f d at)
          (λ t. more_formed f d k (level f rs s d (k + 1) at) t (level_formed f d (k + 1) at))

      more_formed : (f d k : ℕ) (x : Reading) → eqb k strongest ≡ false → Good x → Good (more f rs s d k x)
      more_formed zero d k x n h = tt
      more_formed (suc f) d k (read l p) n h =
          by_case Good (eqb (entry_in (operator_at s p)).strength k)
          (λ t. more_formed f d k (operation f rs s d k l p) n (operation_formed f d k l p n (eqb-true (entry_in (operator_at s p)).strength k t) h))
          (λ t. h)
      more_formed (suc f) d k outside n h = tt

      operation_formed : (f d k : ℕ) (l : Expr) (p : ℕ) → eqb k strongest ≡ false → (entry_in (operator_at s p)).strength ≡ k
          → Formed rs l → Good (operation f rs s d k l p)
      operation_formed zero d k l p n e h = tt
      operation_formed (suc f) d k l p n e h =
          by_case Good (eqb k rotations)
          (λ t.
          rotation_formed (operator_at s p) l (decimal_at s (skip s (after_token s p)))
          (strength_is (operator_at s p) rotations (omega arith) ∙ ap (λ (i : ℕ). eqb i rotations) e ∙ t) h)
          (λ t.
          joined_formed (operator_at s p) l (level f rs s d (k + 1) (after_token s p))
          (strength_is (operator_at s p) strongest (omega arith) ∙ ap (λ (i : ℕ). eqb i strongest) e ∙ n)
          (strength_is (operator_at s p) rotations (omega arith) ∙ ap (λ (i : ℕ). eqb i rotations) e ∙ t)
          h (level_formed f d (k + 1) (after_token s p)))

      operand_formed : (f d at : ℕ) → Good (operand f rs s d at)
      operand_formed zero d at = tt
      operand_formed (suc f) d at =
          by_case Good (eqb (next s at) round_open)
          (λ t. enclosed_formed f d round_close (skip s at + 1))
          (λ t.
          by_case Good (is_letter (next s at))
          (λ u. worded_formed f d (skip s at))
          (λ u. constant_formed (constant_at s (skip s at)) (constant_fits s (skip s at))))

      worded_formed : (f d at : ℕ) → Good (worded f rs s d at)
      worded_formed zero d at = tt
      worded_formed (suc f) d at =
          by_case Good (same (slice s at (run_end class.Word s at)) not_token)
          (λ t. negated_formed f d (run_end class.Word s at))
          (λ t.
          by_case Good (same (slice s at (run_end class.Word s at)) memory_token)
          (λ u.
          by_case Good (eqb (next s (run_end class.Word s at)) square_open)
          (λ v. enclosed_formed f d square_close (skip s (run_end class.Word s at) + 1))
          (λ v. tt))
          (λ u. reference_formed s at (reference_at rs s at) refl))

      negated_formed : (f d at : ℕ) → Good (negated f rs s d at)
      negated_formed zero d at = tt
      negated_formed (suc f) d at =
          by_case Good (ltb d deepest)
          (λ t. not_formed (level f rs s (d + 1) strongest at) (level_formed f (d + 1) strongest at))
          (λ t. tt)

      enclosed_formed : (f d close at : ℕ) → Good (enclosed f rs s d close at)
      enclosed_formed zero d close at = tt
      enclosed_formed (suc f) d close at =
          by_case Good (ltb d deepest)
          (λ t. closed_formed s close (level f rs s (d + 1) weakest at) (level_formed f (d + 1) weakest at))
          (λ t. tt)

    -- expressions
    accepted : (t : Expr) → Formed rs t → leb (pieces t) most_pieces ≡ true → Accepted rs t
    accepted t h e = record { formed = h; narrow = formed_narrow rs t h; few = leb-true (pieces t) most_pieces e }

    whole_formed : (x : Reading) → Good x → Reads (Accepted rs) (whole s x)
    unfolding whole
    whole_formed (read t p) h =
        by_case (Reads (Accepted rs)) (eqb p (length s) && leb (pieces t) most_pieces)
        (λ e. accepted t h (and_right (eqb p (length s)) (leb (pieces t) most_pieces) e))
        (λ e. tt)
    whole_formed outside h = tt

    pub expression_formed : Reads (Accepted rs) (expression rs s)
    unfolding expression
    expression_formed =
        by_case (Reads (Accepted rs)) (trimmed s)
        (λ t. whole_formed (level (fuel s) rs s 0 weakest 0) (level_formed (fuel s) 0 weakest 0))
        (λ t. tt)

    -- destinations
    name_formed : (x : Option Reference) → reference_at rs s 0 ≡ x → LeadsTo (FormedDestination rs) (of_name s x)
    unfolding of_name
    name_formed (Some (Whole r w p)) e =
        let k = whole_known rs s 0 r w p e in
        by_case (LeadsTo (FormedDestination rs)) (eqb p (length s)) (λ t. record { listed = k.0; width_is = k.1 }) (λ t. tt)
    name_formed (Some (Part r w a b p)) e =
        let k = bits_known rs s 0 r w a b p e in
        by_case (LeadsTo (FormedDestination rs)) (eqb p (length s)) (λ t. record { listed = k.0; width_is = k.1; ordered = k.2; below = k.3 }) (λ t. tt)
    name_formed None e = tt

    address_formed : (x : Reading) → Good x → LeadsTo (FormedDestination rs) (of_address s x)
    unfolding of_address
    address_formed (read t p) h =
        by_case (LeadsTo (FormedDestination rs)) (eqb (next s p) square_close && eqb (skip s p + 1) (length s) && leb (pieces t) most_pieces)
        (λ e. accepted t h (and_right (eqb (next s p) square_close && eqb (skip s p + 1) (length s)) (leb (pieces t) most_pieces) e))
        (λ e. tt)
    address_formed outside h = tt

    memory_formed : (end : ℕ) → LeadsTo (FormedDestination rs) (memory_at rs s end)
    unfolding memory_at
    memory_formed end =
        by_case (LeadsTo (FormedDestination rs)) (eqb (next s end) square_open)
        (λ t. address_formed (level (fuel s) rs s 0 weakest (skip s end + 1)) (level_formed (fuel s) 0 weakest (skip s end + 1)))
        (λ t. tt)

    pub destination_formed : LeadsTo (FormedDestination rs) (destination rs s)
    unfolding destination
    destination_formed =
        by_case (LeadsTo (FormedDestination rs)) (trimmed s)
        (λ t.
        by_case (LeadsTo (FormedDestination rs)) (same (slice s 0 (run_end class.Word s 0)) memory_token)
        (λ u. memory_formed (run_end class.Word s 0))
        (λ u. name_formed (reference_at rs s 0) refl))
        (λ t. tt)

    -- the bits of a part stand in their order, within the register
    pub ordered : (r w a b : ℕ) → destination rs s ≡ leads (to_part r w a b) → (a ≤ b) × (b < w)
    ordered r w a b e =
        let k = subst (LeadsTo (FormedDestination rs)) e destination_formed in
        (k.ordered, k.below)
