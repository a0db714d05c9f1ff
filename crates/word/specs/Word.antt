-- Words of 1 to 16 bits as numbers: bit parts, joining, complement, rotation, and the increment of a 12-bit word.
-- "Bit 0 is the leftmost bit", so bit b of a word of w bits stands w - 1 - b places from its right end. A place counted from the
-- right end and a number of bits make a field; every other definition is said by fields.
-- Assumes nothing.
use Rattle.std.specs.Prelude.{ℕ, ◌+◌, ◌-◌, ◌*◌, ◌/◌, ◌%◌, ◌^◌, Bool, nat_lt}

-- the most bits that a register or an expression has: "width (1 to 16 ..)", "No width may pass 16"
abbrev pub widest : ℕ
widest = 16

-- "words of 12 bits"
abbrev pub word_bits : ℕ
word_bits = 12

-- "a value fits a register if it is no wider"
abbrev pub fits : ℕ → ℕ → Bool
fits w x = nat_lt x (2 ^ w)

-- the q bits that stand p places from the right end
abbrev pub field : ℕ → ℕ → ℕ → ℕ
field p q x = x / 2 ^ p % 2 ^ q

-- x with v in those bits: "Storing drops extra left bits or fills zeros on the left; a bit part's other bits stay"
abbrev pub with_field : ℕ → ℕ → ℕ → ℕ → ℕ
with_field p q x v = x / 2 ^ (q + p) * 2 ^ (q + p) + (v % 2 ^ q * 2 ^ p + x % 2 ^ p)

-- bits a to b of x, a word of w bits
abbrev pub bits : ℕ → ℕ → ℕ → ℕ → ℕ
bits w a b x = field (w - 1 - b) (b - a + 1) x

-- x, a word of w bits, with v in its bits a to b
abbrev pub with_bits : ℕ → ℕ → ℕ → ℕ → ℕ → ℕ
with_bits w a b x v = with_field (w - 1 - b) (b - a + 1) x v

-- "@ (join)": x, and on its right y of k bits
abbrev pub join : ℕ → ℕ → ℕ → ℕ
join k x y = x * 2 ^ k + y

-- "Not": each of w bits the other way
abbrev pub complement : ℕ → ℕ → ℕ
complement w x = 2 ^ w - 1 - x

-- the p bits at the right end and the q bits before them, changing places
abbrev pub swapped : ℕ → ℕ → ℕ → ℕ
swapped p q x = x % 2 ^ p * 2 ^ q + x / 2 ^ p

-- "Slr, Srr (rotate ..)": n places to the left, "taken modulo the left width"
abbrev pub rotated_left : ℕ → ℕ → ℕ → ℕ
rotated_left w n x = swapped (w - n % w) (n % w) x

-- and to the right
abbrev pub rotated_right : ℕ → ℕ → ℕ → ℕ
rotated_right w n x = swapped (n % w) (w - n % w) x

-- "Each increment of a word or of PC is added modulo 4,096"
abbrev pub next : ℕ → ℕ
next x = (x + 1) % 2 ^ word_bits
