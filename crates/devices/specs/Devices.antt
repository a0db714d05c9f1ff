-- Document 02, Two, "Keyboard and teleprinter": their five registers, what the start of a step or cycle does to them, and what one prints. Both engines go by it.
-- Assumes nothing.
use Rattle.std.specs.Prelude.{List, [], ◌∷◌, ◌++◌, map, ℕ, ◌^◌, ◌<◌, length, drop, get_or}
use Rattle.word.specs.Choice.{on, pick}
use Rattle.characters.specs.Ascii.{ascii}
use Rattle.characters.specs.Named.{Named}
use Rattle.devices.specs.declared.Devices.{Devices}

-- ---- the registers

-- a byte: "KEY.BYTE 8 bits", "AC<4:11>"
abbrev pub byte_bits : ℕ
byte_bits = 8

-- "five registers (KEY.BYTE 8 bits, KEYBOARD.FLAG 1, PRINTER.FLAG 1, PRINT.BYTE 8, PRINT.MARK 1 ..)", "in this order"
abbrev pub device_registers : List Named
device_registers =
    record { name = ascii "KEY.BYTE"; number = byte_bits }
    ∷ record { name = ascii "KEYBOARD.FLAG"; number = 1 }
    ∷ record { name = ascii "PRINTER.FLAG"; number = 1 }
    ∷ record { name = ascii "PRINT.BYTE"; number = byte_bits }
    ∷ record { name = ascii "PRINT.MARK"; number = 1 }
    ∷ []

-- their widths
abbrev pub device_widths : List ℕ
device_widths = map (λ (r : Named). r.number) device_registers

-- their values, in their order, and the registers that have such values
abbrev pub device_values : Devices → List ℕ
device_values c = c.key ∷ c.keyboard ∷ c.printer ∷ c.print ∷ c.mark ∷ []

abbrev pub devices_of : List ℕ → Devices
devices_of l = record { key = get_or l 0 0; keyboard = get_or l 1 0; printer = get_or l 2 0; print = get_or l 3 0; mark = get_or l 4 0 }

-- each fits its width
pub record DevicesFit (c : Devices) : Type 0 where
  pub key : c.key < 2 ^ byte_bits
  pub keyboard : c.keyboard < 2
  pub printer : c.printer < 2
  pub print : c.print < 2 ^ byte_bits
  pub mark : c.mark < 2

-- ---- the start of a step or cycle

-- "The next input byte arrives and raises the keyboard flag"
abbrev pub received : Devices → List ℕ → Devices
received c [] = c
received c (b ∷ l) = record { key = b; keyboard = 1; printer = c.printer; print = c.print; mark = c.mark }

-- "at the start of a step that finds it 0"
unfoldable pub arrived : Devices → List ℕ → Devices
arrived c l = pick (on c.keyboard) c (received c l)

-- the input that is then still unread
unfoldable pub unread_after : Devices → List ℕ → List ℕ
unread_after c l = pick (on c.keyboard) l (drop 1 l)

-- "The printer flag rises at the start of the step after a print, which a print mark remembers until then."
unfoldable pub risen : Devices → Devices
risen c = pick (on c.mark) (record { key = c.key; keyboard = c.keyboard; printer = 1; print = c.print; mark = 0 }) c

-- both: what a step finds
unfoldable pub begun : Devices → List ℕ → Devices
begun c l = risen (arrived c l)

-- ---- its end

-- "a byte newly marked": the start took an older mark away, so that one that stands after a step is new
unfoldable pub printed_after : Devices → List ℕ → List ℕ
printed_after c printed = pick (on c.mark) (printed ++ (c.print ∷ [])) printed

-- "output room past what is written stays as it came"
unfoldable pub written : List ℕ → List ℕ → List ℕ
written printed output = printed ++ drop (length printed) output
