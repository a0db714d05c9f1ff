-- What the code holds of a session: the devices' registers, and the numbers of bytes read and printed.
-- Assumes nothing.
use Rattle.std.specs.Prelude.{◌≡◌, List, ℕ, ◌+◌, ◌^◌, ◌≤◌, ◌<◌, length, drop, take, set, get_or}
use Rattle.word.specs.Choice.{on, pick}
use Rattle.devices.specs.declared.Devices.{Devices}
use Rattle.devices.specs.Devices.{byte_bits, begun, unread_after}
use Rattle.devices.specs.Session.{Session}

-- the start of a step, after which `now` bytes are read
pub record BegunBy (c : Devices) (input : List ℕ) (read : ℕ) (after : Devices) (now : ℕ) : Type 0 where
  pub devices : after ≡ begun c (drop read input)
  pub unread : drop now input ≡ unread_after c (drop read input)
  pub within : now ≤ length input

-- the print after it, after which `now` bytes are printed
pub record PrintedBy (c : Devices) (output : List ℕ) (printed : ℕ) (after : List ℕ) (now : ℕ) : Type 0 where
  pub buffer : after ≡ pick (on c.mark) (set output printed c.print) output
  pub count : now ≡ pick (on c.mark) (printed + 1) printed

-- the session that the numbers stand for
abbrev pub session : {A : Type 0} → A → ℕ → ℕ → List ℕ → List ℕ → Session A
session x read printed input output = record { engine = x; unread = drop read input; printed = take printed output }

-- a list of bytes
pub record Bytes (l : List ℕ) : Type 0 where
  pub each : (k : ℕ) → get_or l k 0 < 2 ^ byte_bits
