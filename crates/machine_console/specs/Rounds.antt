-- What the code does: stretches of plain steps up to a device's word, and rounds that make the starts of steps, the devices' words and the prints.
-- Assumes nothing.
use Rattle.std.specs.Prelude.{true, ℕ}
use Rattle.word.specs.Choice.{pick}
use Rattle.runs.specs.Run.{Ended, ended}
use Rattle.devices.specs.declared.Devices.{Devices}
use Rattle.devices.specs.Devices.{begun, unread_after, printed_after}
use Rattle.devices.specs.Session.{Session}
use Rattle.machine_state.specs.State.{State, word, with_request}
use Rattle.machine_run.specs.Step.{makes_test}
use Rattle.machine_run.specs.Stretch.{is_paused, unpaused, stretch_from}
use Rattle.machine_console.specs.Console.{Console, console, line, device_step}

-- ---- a round, with `left` steps of the budget left and `done` made; x is the machine after the start of a step

-- INTERRUPT.REQUEST is refreshed where this step makes a test
unfoldable pub refreshed : Console → State
refreshed x = pick (makes_test (word x.state.pc x.state)) (with_request (line x.devices) x.state) x.state

-- and the stretch is one step long where it makes none
unfoldable pub limit : ℕ → Console → ℕ
limit left x = pick (makes_test (word x.state.pc x.state)) left 1

-- the device's word before which a stretch paused
unfoldable pub resumed : Devices → State → Console
resumed c s = pick (is_paused s) (device_step (console (unpaused s) c)) (console s c)

abbrev pub taken : Devices → Ended State → Ended Console
taken c t = ended t.steps (resumed c t.left)

unfoldable pub worked : ℕ → ℕ → Console → Ended Console
worked left done x = taken x.devices (stretch_from true (limit left x) done (refreshed x))

-- with the start before it, and the print after it
abbrev pub begun_at : Session Console → Console
begun_at x = console x.engine.state (begun x.engine.devices x.unread)

abbrev pub finished_at : Session Console → Ended Console → Ended (Session Console)
finished_at x r =
    ended r.steps
    (record { engine = r.left; unread = unread_after x.engine.devices x.unread; printed = printed_after r.left.devices x.printed })

unfoldable pub round : ℕ → ℕ → Session Console → Ended (Session Console)
round left done x = finished_at x (worked left done (begun_at x))
