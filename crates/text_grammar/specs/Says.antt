-- The grammar of expressions: which tree a stretch of the field s says, over the registers rs. `Says d k at p t`: inside d open brackets, parentheses and
-- Nots, what stands from the place at to the place p says the tree t, by operators of the strength k and stronger ones. No order of reading is in it.
-- "Spaces may stand between tokens in an expression or destination": `token` is the one that stands next behind them.
-- Assumes nothing.
use Rattle.std.specs.Prelude.{◌≡◌, true, List, ℕ, ◌+◌, ◌≤◌, ◌<◌}
use Rattle.word.specs.Word.{widest}
use Rattle.characters.specs.Ascii.{ascii}
use Rattle.characters.specs.Characters.{is_letter}
use Rattle.characters.specs.Named.{Named}
use Rattle.text_constants.specs.Constants.{constant_at, decimal_at, plain, found}
use Rattle.text_operators.specs.declared.Operator.{Operator}
use Rattle.text_operators.specs.Operators.{entry_in, weakest, strongest, rotations}
use Rattle.text_tokens.specs.Tokens.{skip, next, after_token, token, operator_at}
use Rattle.text_bit_parts.specs.Refers.{Refers}
use Rattle.text_bit_parts.specs.declared.Reference.TheVariants.{Whole, Part}
use Rattle.text_code.specs.Tree.{Expr, register, bit_part, constant, memory, complemented, rotated, binary, width, largest_count}

-- "Open brackets, parentheses and Nots nest to 8"
abbrev pub deepest : ℕ
deepest = 8

module _ (s : List ℕ) where
  -- the operator that stands next, and its strength, which is 0 where none does
  abbrev pub operator : ℕ → Operator
  operator q = (entry_in (operator_at s q)).operator

  abbrev pub strength : ℕ → ℕ
  strength q = (entry_in (operator_at s q)).strength

  -- a name stands next: "a letter first", and neither Not nor M
  pub record Name (at : ℕ) : Type 0 where
    pub letter : is_letter (next s at) ≡ true
    pub no_not : token s at ≡ ascii "Not" → ⊥
    pub no_memory : token s at ≡ ascii "M" → ⊥

pub data Says (rs : List Named) (s : List ℕ) : ℕ → ℕ → ℕ → ℕ → Expr → Type 0 where
  -- what is said by stronger operators is said by weaker ones, too
  stronger : {d k at p : ℕ} {t : Expr} → Says rs s d (k + 1) at p t → Says rs s d k at p t
  -- "the others group from the left": on the left an operator's own strength, on the right only stronger ones. "No width may pass 16"
  operates : {d k at q p : ℕ} {l r : Expr} → Says rs s d k at q l → strength s q ≡ k → (k ≡ rotations → ⊥) → Says rs s d (k + 1) (after_token s q) p r
      → width (binary (operator s q) l r) ≤ widest → Says rs s d k at p (binary (operator s q) l r)
  -- "Slr, Srr (rotate; right side a decimal from 0 to 15 ..)"
  rotates : {d at q n p : ℕ} {l : Expr} → Says rs s d rotations at q l → strength s q ≡ rotations → decimal_at s (skip s (after_token s q)) ≡ plain n p
      → n ≤ largest_count → Says rs s d rotations at p (rotated (operator s q) l n)
  -- "Not is prefix"; "a Not is open to its operand's end"
  complements : {d at p : ℕ} {t : Expr} → token s at ≡ ascii "Not" → d < deepest → Says rs s (d + 1) strongest (after_token s at) p t
      → Says rs s d strongest at p (complemented t)
  -- "Expressions hold names, bit parts, `M[..]`, `(..)` and constants"
  encloses : {d at q : ℕ} {t : Expr} → token s at ≡ ascii "(" → d < deepest → Says rs s (d + 1) weakest (after_token s at) q t → token s q ≡ ascii ")"
      → Says rs s d strongest at (after_token s q) t
  fetches : {d at q : ℕ} {t : Expr} → token s at ≡ ascii "M" → token s (after_token s at) ≡ ascii "[" → d < deepest
      → Says rs s (d + 1) weakest (after_token s (after_token s at)) q t → token s q ≡ ascii "]" → Says rs s d strongest at (after_token s q) (memory t)
  is_register : {d at r w p : ℕ} → Name s at → Refers rs s (skip s at) (Whole r w p) → w ≤ widest → Says rs s d strongest at p (register r w)
  is_part : {d at r w a b p : ℕ} → Name s at → Refers rs s (skip s at) (Part r w a b p) → width (bit_part r w a b) ≤ widest
      → Says rs s d strongest at p (bit_part r w a b)
  is_constant : {d at v w p : ℕ} → constant_at s (skip s at) ≡ found v w p → w ≤ widest → Says rs s d strongest at p (constant w v)
