-- Tokens, by place in the field s.
-- "A constant with its mark, read as far as its digits go, or a run of letters, digits and dots, is one token; so is every other character."
-- Assumes nothing.
use Rattle.std.specs.Prelude.{ℕ, ◌+◌, ◌-◌, true, false, List, eqb, get_or, take, drop}
use Rattle.characters.specs.Characters.{is_word, run_end}
use Rattle.characters.specs.declared.Class.TheVariants.{Space, Word, Binary, Octal}
use Rattle.text_constants.specs.Constants.{binary_mark, octal_mark}
use Rattle.text_operators.specs.OperatorNames.{operator_row}

-- the place of the next token
abbrev pub skip : List ℕ → ℕ → ℕ
skip s at = run_end Space s at

-- the byte with which the next token begins
abbrev pub next : List ℕ → ℕ → ℕ
next s at = get_or s (skip s at) 0

-- the place after the token at a place: a constant's digits behind its mark, a run, or one character
unfoldable pub token_end : List ℕ → ℕ → ℕ
token_end s at =
    elim (is_word (get_or s at 0)) [
      | true ↦ run_end Word s at
      | false ↦
          elim (eqb (get_or s at 0) binary_mark) [
            | true ↦ run_end Binary s (at + 1)
            | false ↦ elim (eqb (get_or s at 0) octal_mark) [ true ↦ run_end Octal s (at + 1) | false ↦ at + 1 ]
          ]
    ]

-- a part of the field, from one place to another
abbrev pub slice : List ℕ → ℕ → ℕ → List ℕ
slice s at end = take (end - at) (drop at s)

-- the token that stands next, and the place after it
abbrev pub after_token : List ℕ → ℕ → ℕ
after_token s at = token_end s (skip s at)

abbrev pub token : List ℕ → ℕ → List ℕ
token s at = slice s (skip s at) (after_token s at)

-- the row of the operator that stands next, the row past the last if none does
unfoldable pub operator_at : List ℕ → ℕ → ℕ
operator_at s at = operator_row (token s at)
