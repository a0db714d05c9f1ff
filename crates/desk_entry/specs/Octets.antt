-- The bytes of a line `input`: "in three octal digits each, parted by one space". The sentences quoted are README's, of "Explain a run".
-- Assumes nothing.
use Rattle.std.specs.Prelude.{◌≡◌, Bool, true, ◌&&◌, List, [], ◌∷◌, ◌++◌, ℕ, zero, suc, ◌+◌, ◌*◌, ◌/◌, ◌≤◌, eqb, leb, length, get_or}
use Rattle.word.specs.Word.{fits}
use Rattle.characters.specs.Ascii.{byte_of}
use Rattle.characters.specs.Characters.{run_end}
use Rattle.characters.specs.declared.Class.TheVariants.{Octal}
use Rattle.text_constants.specs.Constants.{number_at}
use Rattle.devices.specs.Devices.{byte_bits}

-- "1 to 64 bytes"
abbrev pub input_bytes : ℕ
input_bytes = 64

abbrev pub space : ℕ
space = byte_of " "

-- the number that three digits from a place stand for
abbrev pub octet_at : List ℕ → ℕ → ℕ
octet_at s at = number_at 8 s at 3 0

-- whether a byte stands there: three octal digits and no more, a number of eight bits, and behind it a space or the end
abbrev pub is_octet : List ℕ → ℕ → Bool
is_octet s at = eqb (run_end Octal s at) (at + 3) && fits byte_bits (octet_at s at) && eqb (get_or s (at + 3) space) space

-- n bytes from the start on, each with the space behind it in four places: whether they are bytes, and which
unfoldable pub are_octets : List ℕ → ℕ → Bool
are_octets s zero = true
are_octets s (suc n) = are_octets s n && is_octet s (4 * n)

unfoldable pub octets : List ℕ → ℕ → List ℕ
octets s zero = []
octets s (suc n) = octets s n ++ octet_at s (4 * n) ∷ []

-- the number of bytes of a field: the last has no space behind it
abbrev pub octets_in : List ℕ → ℕ
octets_in s = (length s + 1) / 4

-- whether a field is bytes
unfoldable pub is_input : List ℕ → Bool
is_input s = eqb (4 * octets_in s) (length s + 1) && leb (octets_in s) input_bytes && are_octets s (octets_in s)

-- what is known of a field of n bytes
pub record Bytes (s : List ℕ) (n : ℕ) : Type 0 where
  pub whole : 4 * n ≡ length s + 1
  pub few : n ≤ input_bytes
  pub each : are_octets s n ≡ true
