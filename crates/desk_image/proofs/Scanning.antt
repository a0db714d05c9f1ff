-- One byte of a line, whatever the lines say: the ways that a scanner goes, and those of one that keeps the line in a buffer.
-- Assumes nothing.
use Rattle.std.proofs.Common.{◌≡◌, ℕ, ◌+◌, ◌<◌, ◌≤◌, true, false, eqb, List, [], ◌∷◌, ◌++◌, length, take, set, sym, refl, ap, ◌∙◌, add-one, arith, length-take, length-take-le, take_all, take-suc-set, le-ltb, lt-ltb, eq-eqb, ne_eqb}
use Rattle.std.specs.Prelude.{Option, Some, None, is_some}
use Rattle.std.specs.Option.{option_or}
use mathlib.Core.Bool.{false≢true}
use Rattle.characters.specs.Ascii.{line_feed}
use Rattle.desk_image.specs.Scan.{Reading, Scan, longer, refusing, at_next_line, ended, scan_byte, unfit_line}

-- the first of two values that is there
or_none : {T : Type 0} (o x : Option T) → is_some o ≡ false → option_or o x ≡ x
or_none None x e = refl
or_none (Some v) x e = absurd (false≢true (sym e))

or_some : {T : Type 0} (o x : Option T) → is_some o ≡ true → option_or o x ≡ o
or_some None x e = absurd (false≢true e)
or_some (Some v) x e = refl

module _ {A : Type 0} (r : Reading A) (s : Scan A) where
  -- the LF of a line
  pub ends_unfit : r.fits s.part ≡ false → ended r s ≡ refusing s
  unfolding ended
  ends_unfit t = rw (t, ended)

  pub ends_fit : r.fits s.part ≡ true → ended r s ≡ at_next_line (r.enter s.part s.made) s
  unfolding ended
  ends_fit t = rw (t, ended)

  module _ (b : ℕ) where
    pub stays : is_some s.refused ≡ true → scan_byte r s b ≡ s
    unfolding scan_byte
    stays e = rw (e, scan_byte)

    module _ (e : is_some s.refused ≡ false) where
      pub at_feed : eqb b line_feed ≡ true → scan_byte r s b ≡ ended r s
      unfolding scan_byte
      at_feed f = rw (e, f, scan_byte)

      pub within : eqb b line_feed ≡ false → length s.part < r.most → scan_byte r s b ≡ longer s b
      unfolding scan_byte
      within f h = rw (e, f, lt-ltb _ _ h, scan_byte)

      pub too_long : eqb b line_feed ≡ false → r.most ≤ length s.part → scan_byte r s b ≡ refusing s
      unfolding scan_byte
      too_long f h = rw (e, f, le-ltb _ _ h, scan_byte)

-- a scanner that keeps the line in a buffer of as many places as a fit line may have bytes
module _ {A : Type 0} (r : Reading A) (line size : ℕ) (refused : Option ℕ) (bytes : List ℕ) (made : A) where
  abbrev buffered : Scan A
  buffered = record { line = line; part = take size bytes; refused = refused; made = made }

  module _ (b : ℕ) where
    pub byte_refused : is_some refused ≡ true → buffered ≡ scan_byte r buffered b
    byte_refused h = sym (stays r buffered b h)

    module _ (none : is_some refused ≡ false) where
      pub byte_feed : b ≡ line_feed → {t : Scan A} → t ≡ ended r buffered → t ≡ scan_byte r buffered b
      byte_feed f e = e ∙ sym (at_feed r buffered b none (eq-eqb b line_feed f))

      pub byte_more : length bytes ≡ r.most → (b ≡ line_feed → ⊥) → size < r.most
          → record { line = line; part = take (size + 1) (set bytes size b); refused = refused; made = made } ≡ scan_byte r buffered b
      byte_more full f h =
          let room : length (take size bytes) ≡ size = length-take-le size bytes (omega arith) in
          let part : take (size + 1) (set bytes size b) ≡ take size bytes ++ b ∷ [] = rw (add-one size) (take-suc-set bytes size b (omega arith)) in
          ap (λ (p : List ℕ). record { line = line; part = p; refused = refused; made = made }) part
          ∙ sym (within r buffered b none (ne_eqb b line_feed f) (omega arith))

      pub byte_long : length bytes ≡ r.most → (b ≡ line_feed → ⊥) → r.most ≤ size → {t : Scan A} → t ≡ refusing buffered → t ≡ scan_byte r buffered b
      byte_long full f h e =
          let room : length (take size bytes) ≡ r.most = ap length (take_all size bytes (omega arith)) ∙ full in
          e ∙ sym (too_long r buffered b none (ne_eqb b line_feed f) (omega arith))

  -- where the text ends here
  pub unfit_begun : length bytes ≡ r.most → 0 < r.most → is_some refused ≡ false → (size ≡ 0 → ⊥) → Some line ≡ unfit_line buffered
  unfit_begun full some none h =
      let part : length (take size bytes) ≡ 0 → ⊥ = λ e. omega (arith, length-take size bytes, h) in
      rw (or_none refused _ none) (simp (ne_eqb (length (take size bytes)) 0 part))

  pub unfit_none : is_some refused ≡ false → size ≡ 0 → None ≡ unfit_line buffered
  unfit_none none h = rw (or_none refused _ none) (simp h)

  pub unfit_refused : is_some refused ≡ true → refused ≡ unfit_line buffered
  unfit_refused some = sym (or_some refused _ some)
