-- Names of registers and bit parts, by place in the field s, over the registers rs: "a name, a bit part `name<a>` or `name<a:b>`".
-- Assumes nothing.
use Rattle.std.specs.Prelude.{◌≡◌, List, [], ℕ, ◌≤◌, ◌<◌, length, get_or}
use Rattle.characters.specs.Ascii.{ascii}
use Rattle.characters.specs.Characters.{run_end}
use Rattle.characters.specs.Named.{Named, find}
use Rattle.characters.specs.declared.Class.TheVariants.{Word}
use Rattle.text_constants.specs.Constants.{decimal_at, plain}
use Rattle.text_tokens.specs.Tokens.{skip, slice, after_token, token}
use Rattle.text_bit_parts.specs.declared.Reference.{Reference}
use Rattle.text_bit_parts.specs.declared.Reference.TheVariants.{Whole, Part}

-- the register that the word at a place names, and its width
abbrev pub register_of : List Named → List ℕ → ℕ → ℕ
register_of rs s at = find (slice s at (run_end Word s at)) rs

abbrev pub width_in : List Named → ℕ → ℕ
width_in rs r = (get_or rs r (record { name = []; number = 0 })).number

-- the bit numbers behind a name: `<a>` or `<a:b>`, "each decimal, .. without leading zeros", from the place at to the place p
pub data Spans (s : List ℕ) (at : ℕ) : ℕ → ℕ → ℕ → Type 0 where
  one_bit : {a q : ℕ} → token s at ≡ ascii "<" → decimal_at s (skip s (after_token s at)) ≡ plain a q → token s q ≡ ascii ">" → Spans s at a a (after_token s q)
  two_bits : {a b q p : ℕ} → token s at ≡ ascii "<" → decimal_at s (skip s (after_token s at)) ≡ plain a q → token s q ≡ ascii ":"
      → decimal_at s (skip s (after_token s q)) ≡ plain b p → token s p ≡ ascii ">" → Spans s at a b (after_token s p)

-- what the name at a place refers to: a register of the list, or bits of one, "a at most b, each .. below the width"
pub data Refers (rs : List Named) (s : List ℕ) (at : ℕ) : Reference → Type 0 where
  to_register_lem : register_of rs s at < length rs → (token s (run_end Word s at) ≡ ascii "<" → ⊥)
      → Refers rs s at (Whole (register_of rs s at) (width_in rs (register_of rs s at)) (run_end Word s at))
  to_bits : {a b p : ℕ} → register_of rs s at < length rs → Spans s (run_end Word s at) a b p → a ≤ b → b < width_in rs (register_of rs s at)
      → Refers rs s at (Part (register_of rs s at) (width_in rs (register_of rs s at)) a b p)
