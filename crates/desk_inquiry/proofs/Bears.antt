-- What is known of the second field of a line, by what the line says.
-- Assumes nothing.
use Rattle.std.proofs.Common.{◌≡◌, ℕ, List, subst}
use Rattle.std.specs.Prelude.{Option, Some, None}
use Rattle.text_fields.specs.Fields.{field}
use Rattle.desk_entry.specs.Lines.{entry}
use Rattle.desk_entry.specs.declared.Entry.{Entry}
use Rattle.desk_entry.proofs.ByKind.{by_entry}
use Rattle.desk_inquiry.specs.Scan.{Bears}

abbrev BearsIf : Option Entry → List ℕ → Type 0
BearsIf (Some e) value = Bears e value
BearsIf None value = Unit {0}

bears_if : (line : List ℕ) → BearsIf (entry line) (field 1 line)
bears_if line =
    by_entry (λ (said : Option Entry). BearsIf said (field 1 line)) tt line
    (λ t. record { word = λ a w. tt; register = λ h d narrow. tt; budget = λ h few small. tt; input = λ h bytes. bytes })

pub line_bears : (line : List ℕ) (e : Entry) → entry line ≡ Some e → Bears e (field 1 line)
line_bears line e is = subst (λ (said : Option Entry). BearsIf said (field 1 line)) is (bears_if line)
