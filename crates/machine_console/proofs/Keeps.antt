-- "a step keeps words and registers within their widths", with devices: theirs, too.
-- Assumes nothing.
use Prim.Native.Nat.{ℕ, ◌^◌, ◌<◌}
use native.Mathlib.Omega.{arith}
use lib.Bits.{bit_or, or_lt}
use lib.Dec.{lit<}
use Rattle.word.specs.Choice.{pick}
use Rattle.word.specs.Word.{word_bits}
use Rattle.word.proofs.Choice.{pick_either}
use Rattle.word.proofs.Next.{next_lt}
use Rattle.runs.proofs.Runs.{run_keeps}
use Rattle.devices.specs.declared.Devices.{Devices}
use Rattle.devices.specs.Devices.{byte_bits, DevicesFit}
use Rattle.devices.specs.Session.{Session, goes_on}
use Rattle.devices.specs.Session as session
use Rattle.devices.specs.Held.{Bytes}
use Rattle.devices.proofs.Starts.{Flags, fit_flags, begun_fit, unread_bytes}
use Rattle.machine_state.specs.State.{State, Good, lac_bits, word, with_ac}
use Rattle.machine_state.specs.Instruction.{is_device}
use Rattle.machine_state.proofs.Keeps.{lac_good, pc_good, request_good, interrupt_good}
use Rattle.machine_state.proofs.Lac.{with_ac_lt}
use Rattle.machine_run.proofs.Keeps.{step_with_good}
use Rattle.machine_console.specs.Instructions.{skips_on_flag, kcc, krs, tcf, tpc, ac_byte, with_ac_byte, lac_after, devices_after, state_after}
use Rattle.machine_console.specs.Console.{Console, line, line_test, device_step, console_step, running, turn, run}

-- the machine's registers and words fit, and the devices' registers
pub record ConsoleFit (x : Console) : Type 0 where
  pub state : Good x.state
  pub devices : DevicesFit x.devices

-- and the bytes that are still unread
pub record SessionFit (x : Session Console) : Type 0 where
  pub engine : ConsoleFit x.engine
  pub unread : Bytes x.unread

-- the machine's registers and words need no more of the devices than that their flags are bits
pub record Flagged (x : Console) : Type 0 where
  pub state : Good x.state
  pub flags : Flags x.devices

pub line_lt : {c : Devices} → Flags c → line c < 2
line_lt {c} f = or_lt 1 c.keyboard c.printer f.keyboard f.printer

line_test_good : {c : Devices} {s : State} → Flags c → Good s → Good (line_test c s)
unfolding line_test
line_test_good f g = interrupt_good (request_good (line_lt f) g)

-- ---- a device's word

read_lt : (lac byte : ℕ) → lac < 2 ^ lac_bits → with_ac_byte lac byte < 2 ^ lac_bits
read_lt lac byte h = omega arith

lac_lt : (i : ℕ) (c : Devices) {lac : ℕ} → lac < 2 ^ lac_bits → lac_after i c lac < 2 ^ lac_bits
unfolding lac_after
lac_lt i c {lac} h =
    let Narrow : ℕ → Type 0 = λ (x : ℕ). x < 2 ^ lac_bits in
    let cleared : ℕ = pick (kcc i) (with_ac lac 0) lac in
    let small = pick_either Narrow (kcc i) (with_ac_lt 0 h) h in
    pick_either Narrow (krs i) (read_lt cleared (bit_or (ac_byte cleared) c.key) small) small

pub after_flags : (i lac : ℕ) {c : Devices} → Flags c → Flags (devices_after i lac c)
unfolding devices_after
after_flags i lac f =
    let Bit : ℕ → Type 0 = λ (x : ℕ). x < 2 in
    record { keyboard = pick_either Bit (kcc i) (lit< tt) f.keyboard; printer = pick_either Bit (tcf i) (lit< tt) f.printer }

pub devices_fit : (i lac : ℕ) {c : Devices} → DevicesFit c → DevicesFit (devices_after i lac c)
unfolding devices_after
devices_fit i lac {c} f =
    let flags = after_flags i lac (fit_flags f) in
    record {
      key = f.key;
      keyboard = flags.keyboard;
      printer = flags.printer;
      print = pick_either (λ (x : ℕ). x < 2 ^ byte_bits) (tpc i) (omega arith) f.print;
      mark = pick_either (λ (x : ℕ). x < 2) (tpc i) (lit< tt) f.mark;
    }

pub state_good : (i : ℕ) (c : Devices) {s : State} → Good s → Good (state_after i c s)
unfolding state_after
state_good i c {s} g =
    pc_good (pick_either (λ (x : ℕ). x < 2 ^ word_bits) (skips_on_flag i c) (next_lt s.pc) g.pc) (lac_good (lac_lt i c g.lac) g)

device_flagged : {x : Console} → Flagged x → Flagged (device_step x)
unfolding device_step
device_flagged {x} f =
    let i : ℕ = word x.state.pc x.state in
    let left = after_flags i x.state.lac f.flags in
    record { state = line_test_good left (state_good i x.devices (pc_good (next_lt x.state.pc) f.state)); flags = left }

-- ---- a step with devices

pub console_flagged : {x : Console} → Flagged x → Flagged (console_step x)
unfolding console_step
console_flagged {x} f =
    pick_either Flagged (is_device (word x.state.pc x.state)) (device_flagged f)
    (record { state = step_with_good (line_test x.devices) (λ s h. line_test_good f.flags h) f.state; flags = f.flags })

fit_flagged : {x : Console} → ConsoleFit x → Flagged x
fit_flagged f = record { state = f.state; flags = fit_flags f.devices }

pub device_fit : {x : Console} → ConsoleFit x → ConsoleFit (device_step x)
unfolding device_step
device_fit {x} f =
    record { state = (device_flagged (fit_flagged f)).state; devices = devices_fit (word x.state.pc x.state) x.state.lac f.devices }

pub console_fit : {x : Console} → ConsoleFit x → ConsoleFit (console_step x)
unfolding console_step
console_fit {x} f =
    pick_either ConsoleFit (is_device (word x.state.pc x.state)) (device_fit f)
    (record { state = step_with_good (line_test x.devices) (λ s h. line_test_good (fit_flags f.devices) h) f.state; devices = f.devices })

-- ---- with its start, and a run

pub turn_fits : {x : Session Console} → SessionFit x → SessionFit (turn x)
unfolding session.turn
turn_fits {x} f =
    record {
      engine = console_fit (record { state = f.engine.state; devices = begun_fit f.unread f.engine.devices });
      unread = unread_bytes x.engine.devices f.unread;
    }

pub run_fits : (room budget : ℕ) {x : Session Console} → SessionFit x → SessionFit (run room budget x).left
run_fits room budget {x} f = run_keeps (goes_on running room) turn SessionFit (λ y g. turn_fits g) budget x f
