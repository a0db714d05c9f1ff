-- Document 02, Two: the eight instructions of keyboard and teleprinter. "Panels use device 03, tag printers 04."
-- Assumes nothing.
use Rattle.std.specs.Prelude.{Bool, ◌&&◌, ◌||◌, ℕ, eqb}
use Rattle.std.specs.Int.Bits.{bit_or}
use Rattle.word.specs.Choice.{on, pick}
use Rattle.word.specs.Word.{bits, with_bits, next}
use Rattle.devices.specs.declared.Devices.{Devices}
use Rattle.machine_state.specs.State.{State, lac_bits, with_lac, with_pc, with_ac}

-- "KSF 6031 and TSF 6041 (skip on flag)"
abbrev pub skips_on_flag : ℕ → Devices → Bool
skips_on_flag i c = (eqb i 0o6031 && on c.keyboard) || (eqb i 0o6041 && on c.printer)

-- "KCC 6032 (clear AC and flag)", "KRB 6036 (KCC, then KRS)"
abbrev pub kcc : ℕ → Bool
kcc i = eqb i 0o6032 || eqb i 0o6036

-- "KRS 6034 (or the byte into AC<4:11>)", and KRB
abbrev pub krs : ℕ → Bool
krs i = eqb i 0o6034 || eqb i 0o6036

-- "TCF 6042 (clear flag)", "TLS 6046 (TCF, then TPC)"
abbrev pub tcf : ℕ → Bool
tcf i = eqb i 0o6042 || eqb i 0o6046

-- "TPC 6044 (print AC<4:11>)", and TLS
abbrev pub tpc : ℕ → Bool
tpc i = eqb i 0o6044 || eqb i 0o6046

-- AC<4:11>, of a LAC, and LAC with x there
abbrev pub ac_byte : ℕ → ℕ
ac_byte lac = bits lac_bits 5 12 lac

abbrev pub with_ac_byte : ℕ → ℕ → ℕ
with_ac_byte lac x = with_bits lac_bits 5 12 lac x

-- LAC after the instruction i: KCC clears AC, then KRS ors the byte into it
unfoldable pub lac_after : ℕ → Devices → ℕ → ℕ
lac_after i c lac =
    let cleared : ℕ = pick (kcc i) (with_ac lac 0) lac in
    pick (krs i) (with_ac_byte cleared (bit_or (ac_byte cleared) c.key)) cleared

-- and the devices: no instruction both reads and prints, so that the LAC before it is the one that is printed
unfoldable pub devices_after : ℕ → ℕ → Devices → Devices
devices_after i lac c =
    record {
      key = c.key;
      keyboard = pick (kcc i) 0 c.keyboard;
      printer = pick (tcf i) 0 c.printer;
      print = pick (tpc i) (ac_byte lac) c.print;
      mark = pick (tpc i) 1 c.mark;
    }

-- and the state, PC having been increased
unfoldable pub state_after : ℕ → Devices → State → State
state_after i c s = with_pc (pick (skips_on_flag i c) (next s.pc) s.pc) (with_lac (lac_after i c s.lac) s)
