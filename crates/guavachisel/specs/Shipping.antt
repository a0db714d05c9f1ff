-- What `guavachisel_shipped` yields to a C caller: a shipped description in the caller's room. Quoted is include/guavachisel.h.
-- Assumes nothing.
use Rattle.std.specs.Prelude.{◌≡◌, List, [], ◌++◌, ℕ, eqb, leb, length, drop}
use Rattle.word.specs.Choice.{pick}
use Rattle.shipped_rows.specs.Variant as variant
use Rattle.shipped_rows.specs.Text.{shipped_text}
use Rattle.guavachisel.specs.Outcome.{places, answered}

-- "GUAVACHISEL_PLAIN": the number of the description of the machine without devices, in one field
abbrev pub plain : ℕ
plain = 0

-- "GUAVACHISEL_DEVICES": the number of its twin's with devices
abbrev pub devices : ℕ
devices = 1

-- the description of a number; no text where it has none
unfoldable pub shipped_of : ℕ → List ℕ
shipped_of which = pick (eqb which plain) (shipped_text variant.plain) (pick (eqb which devices) (shipped_text variant.devices) [])

-- "to the first bytes of `text`, if it fits into the `room` bytes there; else, and behind it, they stay as they came"
unfoldable pub written : List ℕ → List ℕ → List ℕ
written text room = pick (leb (length text) (length room)) (text ++ drop (length text) room) room

-- everything after the call: the room, and the outcome, which speaks of the description's length
pub record Shipped (which : ℕ) (room room' out' : List ℕ) : Type 0 where
  pub text : room' ≡ written (shipped_of which) room
  pub outcome : out' ≡ places (answered (length (shipped_of which)))
