-- Texts as texts: a quoted text stands for the list of its bytes, which are ASCII.
-- Assumes nothing.
use Rattle.std.specs.Prelude.{List, [], ◌∷◌, ℕ, ◌+◌}
use Prim.Native.Char.{code}
use Prim.Native.String.{String}

-- a quoted text as the list of its bytes
abbrev pub ascii : String → List ℕ
ascii String.[] = []
ascii (String.◌∷◌ c s) = code c ∷ ascii s

-- the byte of a quoted text that is one character
abbrev pub byte_of : String → ℕ
byte_of String.[] = 0
byte_of (String.◌∷◌ c s) = code c

abbrev pub tab : ℕ
tab = byte_of "\t"

abbrev pub line_feed : ℕ
line_feed = byte_of "\n"

-- the character of a digit
abbrev pub digit : ℕ → ℕ
digit d = byte_of "0" + d
