-- What a run with devices read and printed, a line each. The sentences quoted are README's, of "Explain a run".
-- Assumes nothing.
use Rattle.std.specs.Prelude.{Bool, true, false, List, [], ◌∷◌, ◌++◌, ℕ}
use Rattle.word.specs.Choice.{pick}
use Rattle.characters.specs.Ascii.{ascii, byte_of, line_feed}
use Rattle.page.specs.Text.{octal, decimal}

-- "how many bytes of the input arrived"
unfoldable pub read_line : ℕ → List ℕ
read_line n = ascii "read\t" ++ decimal n ++ line_feed ∷ []

abbrev pub space : ℕ
space = byte_of " "

-- a byte "in three octal digits", the first or one behind it, "parted by one space"
abbrev pub octet : Bool → ℕ → List ℕ
octet first b = pick first [] (space ∷ []) ++ octal 3 b

unfoldable pub octets_from : Bool → List ℕ → List ℕ
octets_from first [] = []
octets_from first (b ∷ l) = octet first b ++ octets_from false l

-- "the bytes printed"
unfoldable pub printed_line : List ℕ → List ℕ
printed_line bytes = ascii "printed\t" ++ octets_from true bytes ++ line_feed ∷ []

-- both
unfoldable pub exchange_lines : ℕ → List ℕ → List ℕ
exchange_lines read printed = read_line read ++ printed_line printed
