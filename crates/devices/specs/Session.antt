-- A run with devices, whatever engine makes it: what runs, the input that is still unread, and what was printed.
-- Assumes nothing.
use Rattle.std.specs.Prelude.{Bool, ◌&&◌, List, [], ℕ, ◌-◌, ltb, length}
use Rattle.runs.specs.Run as runs
use Rattle.runs.specs.Run.{Ended}
use Rattle.devices.specs.declared.Devices.{Devices}
use Rattle.devices.specs.Devices.{begun, unread_after, printed_after, written}

pub record Session (A : Type 0) : Type 0 where
  pub engine : A
  pub unread : List ℕ
  pub printed : List ℕ

-- where an engine has its devices: how they are read, and put
pub record Attached (A : Type 0) : Type 0 where
  pub get : A → Devices
  pub put : Devices → A → A

-- a step or cycle: its start, what the engine does, and the print after it
unfoldable pub turn : {A : Type 0} → Attached A → (A → A) → Session A → Session A
turn at step x =
    let after = step (at.put (begun (at.get x.engine) x.unread) x.engine) in
    record { engine = after; unread = unread_after (at.get x.engine) x.unread; printed = printed_after (at.get after) x.printed }

-- whether the output has a place left
abbrev pub place_left : {A : Type 0} → ℕ → Session A → Bool
place_left room x = ltb (length x.printed) room

-- "With no place left in the output buffer no step begins"
abbrev pub goes_on : {A : Type 0} → (A → Bool) → ℕ → Session A → Bool
goes_on running room x = running x.engine && place_left room x

-- before the first step
abbrev pub opened : {A : Type 0} → A → List ℕ → Session A
opened x input = record { engine = x; unread = input; printed = [] }

-- the run of a budget
abbrev pub run : {A : Type 0} → Attached A → (A → Bool) → (A → A) → ℕ → ℕ → Session A → Ended (Session A)
run at running step room budget x = runs.run (goes_on running room) (turn at step) budget x

-- ---- what a call did with the input and the output that it was lent

pub record Exchange : Type 0 where
  -- the bytes that arrived; those behind them are unread
  pub read : ℕ
  -- the bytes printed, at the front of the output
  pub printed : ℕ
  pub output : List ℕ

abbrev pub exchanged : {A : Type 0} → List ℕ → List ℕ → Session A → Exchange
exchanged input output x =
    record { read = length input - length x.unread; printed = length x.printed; output = written x.printed output }

-- after a refusal, and without devices
abbrev pub untouched : List ℕ → Exchange
untouched output = record { read = 0; printed = 0; output = output }
