-- "Turned down for the input": the number of each refusal.
-- Assumes nothing.
use Rattle.std.specs.Prelude.{ℕ}
use Rattle.text_declaration.specs.declared.faults.Fault.{Fault}
use Rattle.text_declaration.specs.declared.faults.Fault.TheVariants.{Size, Header, Line, Register, Expression, Label, Limit, Run}

abbrev pub number_of : Fault → ℕ
-- "text over 16,384 bytes"
number_of Size = 1
-- "first line .. isn't the header"
number_of Header = 2
-- "a line of more than 200 bytes ..; no LF after the last line; a byte other than 32 to 126 or TAB, unknown first word, wrong field count, empty
-- field, `reg` after another kind"
number_of Line = 3
-- "a name that is malformed, reserved or repeated, or a bad width"
number_of Register = 4
-- "an expression or destination outside the rules, unknown names included"
number_of Expression = 5
-- "an `at` label malformed, repeated or equal to a register name; a malformed `go` label; a `go` without its label lower down"
number_of Label = 6
-- "the 17th register, 129th row, 33rd label or 1,025th piece"
number_of Limit = 7
-- "no register RUN of width 1"
number_of Run = 8
