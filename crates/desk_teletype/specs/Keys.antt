-- Keys in a buffer: when some are fetched, what a read leaves, and what the machine takes.
-- Assumes nothing.
use Rattle.std.specs.Prelude.{◌≡◌, Bool, true, ◌&&◌, ◌||◌, List, ℕ, ◌+◌, ◌-◌, ◌≤◌, eqb, take, drop, min, Result, Ok, Err}
use Rattle.word.specs.Choice.{on}
use Rattle.desk_teletype.specs.declared.keys.Keys.{Keys}

-- the bytes of the buffer
abbrev pub key_bytes : ℕ
key_bytes = 65536

-- before the first read
abbrev pub none : Keys
none = record { at = 0; left = 0; more = true }

-- the machine has taken all, and more may be typed
abbrev pub wanted : Keys → Bool
wanted k = eqb k.left 0 && k.more

-- how many bytes a read put into the buffer: none where it failed
abbrev pub bytes_read : {E : Type 0} → Result ℕ E → ℕ
bytes_read (Ok n) = min n key_bytes
bytes_read (Err e) = 0

-- after a read of n bytes: where it read nothing, the input has ended if it is no terminal
abbrev pub typed : ℕ → Bool → Keys
typed n terminal = record { at = 0; left = n; more = on n || terminal }

-- the bytes that the machine has not taken
abbrev pub unread : Keys → List ℕ → List ℕ
unread k buffer = take k.left (drop k.at buffer)

-- after it took n of them
abbrev pub taken : Keys → ℕ → Keys
taken k n = record { at = k.at + n; left = k.left - n; more = k.more }

-- the keys that are meant. That they are within the buffer follows, and is what a caller needs.
pub record Kept (meant k : Keys) : Type 0 where
  pub keys : k ≡ meant
  pub within : k.at + k.left ≤ key_bytes
