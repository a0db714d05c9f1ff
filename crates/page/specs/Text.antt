-- Numbers as the programs write them.
-- Assumes nothing.
use Rattle.std.specs.Prelude.{List, [], ◌∷◌, ◌++◌, true, false, ℕ, zero, suc, ◌/◌, ◌%◌, ltb}
use Rattle.characters.specs.Ascii.{digit}

-- the last n octal digits of x: all of them where x has no more
unfoldable pub octal : ℕ → ℕ → List ℕ
octal zero x = []
octal (suc n) x = octal n (x / 8) ++ (digit (x % 8) ∷ [])

-- the last digits of x in decimal, at most n of them, without leading zeros
unfoldable pub decimal_in : ℕ → ℕ → List ℕ
decimal_in zero x = []
decimal_in (suc n) x = elim (ltb x 10) [ true ↦ digit x ∷ [] | false ↦ decimal_in n (x / 10) ++ (digit (x % 10) ∷ []) ]

-- "decimal", all digits: x has at most x + 1 of them
unfoldable pub decimal : ℕ → List ℕ
decimal x = decimal_in (suc x) x
