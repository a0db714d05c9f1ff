-- What a table of registers in the code holds: an entry of it as a name with its number.
-- Assumes nothing.
use Rattle.std.specs.Prelude.{[]}
use Rattle.characters.specs.Named.{Named}
use Rattle.characters.specs.declared.registers.Register.{Register}

-- the register of an entry
abbrev pub named : Register → Named
named r = record { name = r.name.now; number = r.width }

-- what stands past the last
abbrev pub nameless : Named
nameless = record { name = []; number = 0 }
