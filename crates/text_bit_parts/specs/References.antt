-- How references are read, by place in the field s: the name of a register, or a bit part of one, as the rules of Refers have them, by the laws
-- `whole_referred`, `part_referred` and `refers_read`.
-- Assumes nothing.
use Rattle.std.specs.Prelude.{ℕ, ◌+◌, true, false, ◌&&◌, List, eqb, leb, ltb, length, Option, Some, None}
use Rattle.characters.specs.Characters.{run_end}
use Rattle.characters.specs.declared.Class.TheVariants.{Word}
use Rattle.text_constants.specs.Constants.{decimal_at}
use Rattle.text_constants.specs.declared.Number.{Number}
use Rattle.characters.specs.Named.{Named, find}
use Rattle.text_tokens.specs.Tokens.{skip, next, slice}
use Rattle.text_tokens.specs.Signs.{angle_open, angle_close, colon}
pub use Rattle.text_bit_parts.specs.Refers.{width_in}
use Rattle.text_bit_parts.specs.declared.Span.{Span}
use Rattle.text_bit_parts.specs.declared.Reference.{Reference}
use Rattle.text_bit_parts.specs.declared.Reference.TheVariants.{Whole, Part}

-- bit numbers that were read, and the place after them
abbrev pub bits : ℕ → ℕ → ℕ → Option Span
bits a b p = Some (record { first = a; last = b; place = p })

-- the bit numbers from the place after `<` on
unfoldable pub second_bit : List ℕ → ℕ → Option Number → Option Span
second_bit s a (Some d) = elim (eqb (next s d.place) angle_close) [ true ↦ bits a d.value (skip s d.place + 1) | false ↦ None ]
second_bit s a None = None

unfoldable pub first_bit : List ℕ → Option Number → Option Span
first_bit s (Some d) =
    elim (eqb (next s d.place) angle_close) [
      | true ↦ bits d.value d.value (skip s d.place + 1)
      | false ↦ elim (eqb (next s d.place) colon) [ true ↦ second_bit s d.value (decimal_at s (skip s (skip s d.place + 1))) | false ↦ None ]
    ]
first_bit s None = None

unfoldable pub span_at : List ℕ → ℕ → Option Span
span_at s at = first_bit s (decimal_at s (skip s at))

-- those that are in order and below the width
unfoldable pub part_of : ℕ → ℕ → Option Span → Option Reference
part_of r w (Some n) = elim (leb n.first n.last && ltb n.last w) [ true ↦ Some (Part r w n.first n.last n.place) | false ↦ None ]
part_of r w None = None

-- register r of w bits, whose name ends at a place, or a bit part of it
unfoldable pub register_at : List ℕ → ℕ → ℕ → ℕ → Option Reference
register_at s r w end = elim (eqb (next s end) angle_open) [ true ↦ part_of r w (span_at s (skip s end + 1)) | false ↦ Some (Whole r w end) ]

-- the name at a place
unfoldable pub reference_at : List Named → List ℕ → ℕ → Option Reference
reference_at rs s at =
    elim (ltb (find (slice s at (run_end Word s at)) rs) (length rs)) [
      | true ↦
          register_at s (find (slice s at (run_end Word s at)) rs) (width_in rs (find (slice s at (run_end Word s at)) rs)) (run_end Word s at)
      | false ↦ None
    ]
