-- Whole fields, over the registers rs: a field that is an expression, with its tree, and a field that is a destination.
-- "Spaces may stand between tokens in an expression or destination only, not at its ends."
-- Assumes nothing.
use Rattle.std.specs.Prelude.{◌≡◌, Bool, true, not, ◌&&◌, List, ℕ, ◌-◌, ◌≤◌, eqb, length, get_or}
use Rattle.characters.specs.Ascii.{ascii, byte_of}
use Rattle.characters.specs.Named.{Named}
use Rattle.text_operators.specs.Operators.{weakest}
use Rattle.text_tokens.specs.Tokens.{after_token, token}
use Rattle.text_bit_parts.specs.Refers.{Refers}
use Rattle.text_bit_parts.specs.declared.Reference.TheVariants.{Whole, Part}
use Rattle.text_code.specs.Tree.{Expr, pieces, most_pieces, Destination, to_register, to_part, to_memory}
use Rattle.text_grammar.specs.Says.{Says}

-- "not at its ends"
abbrev pub trimmed : List ℕ → Bool
trimmed s = not (eqb (get_or s 0 0) (byte_of " ")) && not (eqb (get_or s (length s - 1) 0) (byte_of " "))

-- a field that is an expression: it says the tree from its start to its end, and "an expression has at most 32" pieces
pub record IsExpression (rs : List Named) (s : List ℕ) (t : Expr) : Type 0 where
  pub trim : trimmed s ≡ true
  pub says : Says rs s 0 weakest 0 (length s) t
  pub few : pieces t ≤ most_pieces

-- "A destination is a name, a bit part `name<a>` or `name<a:b>` .., or `M[expression]`"
pub data IsDestination (rs : List Named) (s : List ℕ) : Destination → Type 0 where
  names_register : {r w : ℕ} → trimmed s ≡ true → (token s 0 ≡ ascii "M" → ⊥) → Refers rs s 0 (Whole r w (length s)) → IsDestination rs s (to_register r w)
  names_part : {r w a b : ℕ} → trimmed s ≡ true → (token s 0 ≡ ascii "M" → ⊥) → Refers rs s 0 (Part r w a b (length s))
      → IsDestination rs s (to_part r w a b)
  -- "a destination's own bracket isn't counted"; "a memory destination's address being one of its own"
  names_word : {q : ℕ} {t : Expr} → trimmed s ≡ true → token s 0 ≡ ascii "M" → token s (after_token s 0) ≡ ascii "["
      → Says rs s 0 weakest (after_token s (after_token s 0)) q t → token s q ≡ ascii "]" → after_token s q ≡ length s → pieces t ≤ most_pieces
      → IsDestination rs s (to_memory t)
