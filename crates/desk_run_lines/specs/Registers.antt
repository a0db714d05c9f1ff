-- The registers after a run, each on a line. The sentences quoted are README's, of "Explain a run", and document 01's.
-- Assumes nothing.
use Rattle.std.specs.Prelude.{List, [], ◌∷◌, ◌++◌, ℕ, length, drop}
use Rattle.characters.specs.Ascii.{tab, line_feed}
use Rattle.page.specs.Text.{octal}
use Rattle.characters.specs.Named.{Named}
use Rattle.machine_state.specs.Registers.{digits_of}
use Rattle.shipped_rows.specs.Variant.{Variant, registers_of}
pub use Rattle.shipped_rows.specs.Variant.{variant_of}
use Rattle.shipped_rows.specs.Shipped.{shipped}

-- "its name and the value that the run leaves, in octal with a digit for every three bits begun"
abbrev pub register_line : Named → ℕ → List ℕ
register_line r value = r.name ++ tab ∷ octal (digits_of r.number) value ++ line_feed ∷ []

-- a line for each register
abbrev pub register_lines : List Named → List ℕ → List ℕ
register_lines [] vs = []
register_lines (r ∷ rs) [] = []
register_lines (r ∷ rs) (v ∷ vs) = register_line r v ++ register_lines rs vs

-- "A shipped description's registers that the emulator lacks are its working registers": those after the machine's
abbrev pub working_registers : Variant → List Named
working_registers v = drop (length (registers_of v)) (shipped v).registers

-- their values among those of a description's registers
abbrev pub working_values : Variant → List ℕ → List ℕ
working_values v values = drop (length (registers_of v)) values
