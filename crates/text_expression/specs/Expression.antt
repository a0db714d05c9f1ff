-- How whole fields are read, over the registers rs: an expression, and a destination. It is what the rules of Fields give and nothing else, by the laws
-- `expression_said`, `expression_read`, `destination_said` and `destination_read`.
-- Assumes nothing.
use Rattle.std.specs.Prelude.{ℕ, ◌+◌, true, false, ◌&&◌, List, eqb, leb, length, Option, Some, None}
use Rattle.characters.specs.Characters.{run_end, same}
use Rattle.characters.specs.Named.{Named}
use Rattle.characters.specs.declared.Class.TheVariants.{Word}
use Rattle.text_bit_parts.specs.declared.Reference.{Reference}
use Rattle.text_bit_parts.specs.declared.Reference.TheVariants.{Whole, Part}
use Rattle.text_operators.specs.Operators.{weakest}
use Rattle.text_tokens.specs.Tokens.{skip, next, slice}
use Rattle.text_tokens.specs.Signs.{square_open, square_close, memory_token}
use Rattle.text_bit_parts.specs.References.{reference_at}
use Rattle.text_code.specs.Tree.{pieces, most_pieces, to_register, to_part, to_memory}
use Rattle.text_code.specs.Readings.{Reading, read, outside, DestinationReading, leads, astray}
use Rattle.text_grammar.specs.Grammar.{level, fuel}
use Rattle.text_expression.specs.Fields.{trimmed}

unfoldable pub whole : List ℕ → Reading → Reading
whole s (read t p) = elim (eqb p (length s) && leb (pieces t) most_pieces) [ true ↦ read t p | false ↦ outside ]
whole s outside = outside

-- a field that is an expression
unfoldable pub expression : List Named → List ℕ → Reading
expression rs s = elim (trimmed s) [ true ↦ whole s (level (fuel s) rs s 0 weakest 0) | false ↦ outside ]

unfoldable pub of_name : List ℕ → Option Reference → DestinationReading
of_name s (Some (Whole r w p)) = elim (eqb p (length s)) [ true ↦ leads (to_register r w) | false ↦ astray ]
of_name s (Some (Part r w a b p)) = elim (eqb p (length s)) [ true ↦ leads (to_part r w a b) | false ↦ astray ]
of_name s None = astray

-- "a destination's own bracket isn't counted"; "a memory destination's address being one of its own"
unfoldable pub of_address : List ℕ → Reading → DestinationReading
of_address s (read t p) =
    elim (eqb (next s p) square_close && eqb (skip s p + 1) (length s) && leb (pieces t) most_pieces) [ true ↦ leads (to_memory t) | false ↦ astray ]
of_address s outside = astray

-- `M[expression]`, from the place after `M` on
unfoldable pub memory_at : List Named → List ℕ → ℕ → DestinationReading
memory_at rs s end =
    elim (eqb (next s end) square_open) [ true ↦ of_address s (level (fuel s) rs s 0 weakest (skip s end + 1)) | false ↦ astray ]

-- a field that is a destination
unfoldable pub destination : List Named → List ℕ → DestinationReading
destination rs s =
    elim (trimmed s) [
      | true ↦
          elim (same (slice s 0 (run_end Word s 0)) memory_token) [
            | true ↦ memory_at rs s (run_end Word s 0)
            | false ↦ of_name s (reference_at rs s 0)
          ]
      | false ↦ astray
    ]
