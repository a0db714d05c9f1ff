-- Runs worth marking with devices, as one table: the places of the output and the budget, the session before a run, and what it leaves. Machine words are octal, bytes decimal.
-- Assumes nothing.
use Rattle.std.specs.Prelude.{List, [], ◌∷◌, ℕ, replicate}
use Rattle.state.specs.Limits.{memory_words}
use Rattle.state.specs.declared.Reason.{Reason}
use Rattle.state.specs.declared.Reason.TheVariants.{Halted, Spent, Paper}
use Rattle.devices.specs.declared.Devices.{Devices}
use Rattle.devices.specs.Session.{Session}
use Rattle.machine_state.specs.State.{State, with_lac, with_pc, with_run, with_enable, with_request, stored}
use Rattle.machine_console.specs.Console.{Console, console}

-- what a run leaves, its steps and its reason
pub record Left : Type 0 where
  pub session : Session Console
  pub steps : ℕ
  pub reason : Reason

pub record MarkedRun : Type 0 where
  pub room : ℕ
  pub budget : ℕ
  pub before : Session Console
  pub after : Left

-- RUN is 1, PC 0200, and every other register and word is 0
unfoldable pub ready : State
ready = record { lac = 0; pc = 0o200; run = 1; enable = 0; request = 0; switches = 0; memory = replicate memory_words 0 }

-- KEY.BYTE, KEYBOARD.FLAG, PRINTER.FLAG, PRINT.BYTE, PRINT.MARK
abbrev dev : ℕ → ℕ → ℕ → ℕ → ℕ → Devices
dev k f p b m = record { key = k; keyboard = f; printer = p; print = b; mark = m }

abbrev quiet : Devices
quiet = dev 0 0 0 0 0

-- a session of a state and devices, what is unread and what was printed
abbrev made : State → Devices → List ℕ → List ℕ → Session Console
made s c l p = record { engine = console s c; unread = l; printed = p }

abbrev left : Session Console → ℕ → Reason → Left
left x n r = record { session = x; steps = n; reason = r }

-- an instruction at 0200, and one at 0201
abbrev at200 : ℕ → State
at200 i = stored 0o200 i ready

abbrev two : ℕ → ℕ → State
two i j = stored 0o201 j (at200 i)

-- KSF, JMP.-1, KRB, TLS, JMP.-4: what is typed is printed
unfoldable pub echo : State
echo = stored 0o200 0o6031 (stored 0o201 0o5200 (stored 0o202 0o6036 (stored 0o203 0o6046 (stored 0o204 0o5200 ready))))

unfoldable pub marked_runs : List MarkedRun
marked_runs =
    -- KSF skips in the very step in which the byte arrives
    record { room = 1; budget = 1; before = made (at200 0o6031) quiet (65 ∷ 66 ∷ []) []; after = left (made (with_pc 0o202 (with_request 1 (at200 0o6031))) (dev 65 1 0 0 0) (66 ∷ []) []) 1 Spent }
    -- KRB clears AC and the flag, then ors the byte; L stays, and the next byte has not arrived
    ∷ record { room = 1; budget = 1; before = made (with_lac 0o17777 (at200 0o6036)) (dev 0o101 1 0 0 0) (66 ∷ []) []; after = left (made (with_pc 0o201 (with_lac 0o10101 (at200 0o6036))) (dev 0o101 0 0 0 0) (66 ∷ []) []) 1 Spent }
    -- KRS ors, and leaves the flag
    ∷ record { room = 1; budget = 1; before = made (with_lac 0o6 (at200 0o6034)) (dev 0o101 1 0 0 0) (66 ∷ []) []; after = left (made (with_pc 0o201 (with_request 1 (with_lac 0o107 (at200 0o6034)))) (dev 0o101 1 0 0 0) (66 ∷ []) []) 1 Spent }
    -- KCC, then any step: the next byte arrives a step later
    ∷ record { room = 1; budget = 2; before = made (two 0o6032 0o7000) (dev 0o101 1 0 0 0) (66 ∷ []) []; after = left (made (with_pc 0o202 (with_request 1 (two 0o6032 0o7000))) (dev 66 1 0 0 0) [] []) 2 Spent }
    -- TLS prints and leaves the flag down; it rises at the start of the next step, in which TSF skips
    ∷ record { room = 2; budget = 1; before = made (with_lac 0o7701 (two 0o6046 0o6041)) (dev 0 0 1 0 0) [] []; after = left (made (with_pc 0o201 (with_lac 0o7701 (two 0o6046 0o6041))) (dev 0 0 0 0o301 1) [] (0o301 ∷ [])) 1 Spent }
    ∷ record { room = 2; budget = 2; before = made (with_lac 0o7701 (two 0o6046 0o6041)) (dev 0 0 1 0 0) [] []; after = left (made (with_pc 0o203 (with_request 1 (with_lac 0o7701 (two 0o6046 0o6041)))) (dev 0 0 1 0o301 0) [] (0o301 ∷ [])) 2 Spent }
    -- TPC leaves a flag that is up
    ∷ record { room = 2; budget = 1; before = made (with_lac 0o101 (at200 0o6044)) (dev 0 0 1 0 0) [] []; after = left (made (with_pc 0o201 (with_request 1 (with_lac 0o101 (at200 0o6044)))) (dev 0 0 1 0o101 1) [] (0o101 ∷ [])) 1 Spent }
    -- a mark that stands at entry raises the flag and prints nothing
    ∷ record { room = 1; budget = 1; before = made (at200 0o7000) (dev 0 0 0 0o101 1) [] []; after = left (made (with_pc 0o201 (with_request 1 (at200 0o7000))) (dev 0 0 1 0o101 0) [] []) 1 Spent }
    -- no room: no step, `paper`, at budget 0 too; RUN 0 comes first
    ∷ record { room = 0; budget = 5; before = made (at200 0o7000) quiet (65 ∷ []) []; after = left (made (at200 0o7000) quiet (65 ∷ []) []) 0 Paper }
    ∷ record { room = 0; budget = 0; before = made (at200 0o7000) quiet [] []; after = left (made (at200 0o7000) quiet [] []) 0 Paper }
    ∷ record { room = 0; budget = 5; before = made (with_run 0 ready) quiet [] []; after = left (made (with_run 0 ready) quiet [] []) 0 Halted }
    -- the last place filled by the budget's last step
    ∷ record { room = 1; budget = 1; before = made (with_lac 65 (at200 0o6044)) quiet [] []; after = left (made (with_pc 0o201 (with_lac 65 (at200 0o6044))) (dev 0 0 0 65 1) [] (65 ∷ [])) 1 Paper }
    -- an interrupt from the keyboard, in the step in which the byte arrives
    ∷ record { room = 1; budget = 1; before = made (with_enable 1 (at200 0o7000)) quiet (65 ∷ []) []; after = left (made (with_pc 1 (with_request 1 (stored 0 0o201 (at200 0o7000)))) (dev 65 1 0 0 0) [] []) 1 Spent }
    -- a REQUEST handed in doesn't count: it becomes the or, which is 0
    ∷ record { room = 1; budget = 1; before = made (with_request 1 (with_enable 1 (at200 0o7000))) quiet [] []; after = left (made (with_pc 0o201 (with_enable 1 (at200 0o7000))) quiet [] []) 1 Spent }
    -- 6001 makes no test, and leaves REQUEST
    ∷ record { room = 1; budget = 1; before = made (at200 0o6001) quiet (65 ∷ []) []; after = left (made (with_pc 0o201 (with_enable 1 (at200 0o6001))) (dev 65 1 0 0 0) [] []) 1 Spent }
    -- nor until the step after it is done: the loop must not go on with the old REQUEST
    ∷ record {
      room = 1;
      budget = 2;
      before = made (two 0o6001 0o7000) quiet (65 ∷ []) [];
      after = left (made (with_pc 1 (with_request 1 (stored 0 0o202 (two 0o6001 0o7000)))) (dev 65 1 0 0 0) [] []) 2 Spent;
    }
    -- HLT with a byte that arrives, interrupts on: no test, REQUEST stays; and with REQUEST 1 given
    ∷ record { room = 1; budget = 9; before = made (with_enable 1 (at200 0o7402)) quiet (65 ∷ []) []; after = left (made (with_pc 0o201 (with_run 0 (with_enable 1 (at200 0o7402)))) (dev 65 1 0 0 0) [] []) 1 Halted }
    ∷ record { room = 1; budget = 9; before = made (with_request 1 (with_enable 1 (at200 0o7402))) (dev 65 1 0 0 0) [] []; after = left (made (with_pc 0o201 (with_request 1 (with_run 0 (with_enable 1 (at200 0o7402))))) (dev 65 1 0 0 0) [] []) 1 Halted }
    -- another word of device 03 does nothing but its test
    ∷ record { room = 1; budget = 1; before = made (at200 0o6037) quiet (65 ∷ []) []; after = left (made (with_pc 0o201 (with_request 1 (at200 0o6037))) (dev 65 1 0 0 0) [] []) 1 Spent }
    -- two bytes typed, two printed; then the paper is full, a byte unread
    ∷ record { room = 2; budget = 99; before = made echo quiet (72 ∷ 105 ∷ 33 ∷ []) []; after = left (made (with_pc 0o204 (with_request 1 (with_lac 105 echo))) (dev 33 1 0 105 1) [] (72 ∷ 105 ∷ [])) 7 Paper }
    ∷ []
