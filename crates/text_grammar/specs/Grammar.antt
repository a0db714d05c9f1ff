-- How the grammar of expressions is read, by place in the field s, over the registers rs: what is said (Says) and nothing else, by the laws `read_said` and
-- `says_read`. Each call of the grammar lowers the number f, which only bounds how deep the calls go: see `fuel`.
-- Assumes nothing.
use Rattle.std.specs.Prelude.{ℕ, zero, suc, ◌+◌, ◌*◌, true, false, List, eqb, ltb, length}
use Rattle.characters.specs.Characters.{is_letter, run_end, same}
use Rattle.text_constants.specs.Constants.{decimal_at, constant_at}
use Rattle.characters.specs.Named.{Named}
use Rattle.characters.specs.declared.Class.TheVariants.{Word}
use Rattle.text_operators.specs.Operators.{entry_in, weakest, strongest, rotations}
use Rattle.text_tokens.specs.Tokens.{skip, next, slice, operator_at, after_token}
use Rattle.text_tokens.specs.Signs.{round_open, round_close, square_open, square_close, not_token, memory_token}
use Rattle.text_bit_parts.specs.References.{reference_at}
use Rattle.text_code.specs.Tree.{Expr}
use Rattle.text_grammar.specs.Says.{deepest}
use Rattle.text_code.specs.Readings.{Reading, read, outside, of_reference, of_constant, not_of, closed, rotation_of, joined}

-- a level's expression is a part of the next stronger level, and more of its own strength
unfoldable mutual
  pub level : ℕ → List Named → List ℕ → ℕ → ℕ → ℕ → Reading
  level zero rs s d k at = outside
  level (suc f) rs s d k at =
      elim (eqb k strongest) [ true ↦ operand f rs s d at | false ↦ more f rs s d k (level f rs s d (k + 1) at) ]

  pub more : ℕ → List Named → List ℕ → ℕ → ℕ → Reading → Reading
  more zero rs s d k x = outside
  more (suc f) rs s d k x =
      elim x [
        | read l p ↦
            elim (eqb (entry_in (operator_at s p)).strength k) [
              | true ↦ more f rs s d k (operation f rs s d k l p)
              | false ↦ read l p
            ]
        | outside ↦ outside
      ]

  -- the operator behind a left side, with its right side
  pub operation : ℕ → List Named → List ℕ → ℕ → ℕ → Expr → ℕ → Reading
  operation zero rs s d k l p = outside
  operation (suc f) rs s d k l p =
      elim (eqb k rotations) [
        | true ↦ rotation_of (operator_at s p) l (decimal_at s (skip s (after_token s p)))
        | false ↦ joined (operator_at s p) l (level f rs s d (k + 1) (after_token s p))
      ]

  -- an operand: in parentheses, a word or a constant
  pub operand : ℕ → List Named → List ℕ → ℕ → ℕ → Reading
  operand zero rs s d at = outside
  operand (suc f) rs s d at =
      elim (eqb (next s at) round_open) [
        | true ↦ enclosed f rs s d round_close (skip s at + 1)
        | false ↦
            elim (is_letter (next s at)) [ true ↦ worded f rs s d (skip s at) | false ↦ of_constant (constant_at s (skip s at)) ]
      ]

  pub worded : ℕ → List Named → List ℕ → ℕ → ℕ → Reading
  worded zero rs s d at = outside
  worded (suc f) rs s d at =
      elim (same (slice s at (run_end Word s at)) not_token) [
        | true ↦ negated f rs s d (run_end Word s at)
        | false ↦
            elim (same (slice s at (run_end Word s at)) memory_token) [
              | true ↦
                  elim (eqb (next s (run_end Word s at)) square_open) [
                    | true ↦ enclosed f rs s d square_close (skip s (run_end Word s at) + 1)
                    | false ↦ outside
                  ]
              | false ↦ of_reference (reference_at rs s at)
            ]
      ]

  pub negated : ℕ → List Named → List ℕ → ℕ → ℕ → Reading
  negated zero rs s d at = outside
  negated (suc f) rs s d at = elim (ltb d deepest) [ true ↦ not_of (level f rs s (d + 1) strongest at) | false ↦ outside ]

  pub enclosed : ℕ → List Named → List ℕ → ℕ → ℕ → ℕ → Reading
  enclosed zero rs s d close at = outside
  enclosed (suc f) rs s d close at =
      elim (ltb d deepest) [ true ↦ closed s close (level f rs s (d + 1) weakest at) | false ↦ outside ]

-- enough for every call that a field can lead to: at most ten for each byte
abbrev pub fuel : List ℕ → ℕ
fuel s = 10 * length s + 10
