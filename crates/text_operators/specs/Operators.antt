-- The operators: "Operators, strongest first: Not; @ (join); Slr, Srr (rotate ..); +; Eql, Neq, Lss; And; Or. The strengths of the operators
-- are one fixed table." A larger number is a greater strength.
-- "Widths: Not and rotation as the left or only side, @ the sum, + one more than the wider side, comparisons 1, And and Or the wider side."
-- Assumes nothing.
use Rattle.std.specs.Prelude.{ℕ, ◌+◌, max, List, [], ◌∷◌, get_or}
use Rattle.text_operators.specs.declared.Operator.{Operator}
use Rattle.text_operators.specs.declared.Operator.TheVariants.{Not, Join, RotateLeft, RotateRight, Add, Equal, Unequal, Less, And, Or}
use Rattle.text_operators.specs.declared.Widths.{Widths}
use Rattle.text_operators.specs.declared.Widths.TheVariants.{Left, Sum, Carry, One, Wider}
use Rattle.text_operators.specs.declared.Entry.{Entry}

-- the table, a row for each operator
abbrev pub table : List Entry
table =
    record { operator = Not; strength = 7; widths = Left }
    ∷ record { operator = Join; strength = 6; widths = Sum }
    ∷ record { operator = RotateLeft; strength = 5; widths = Left }
    ∷ record { operator = RotateRight; strength = 5; widths = Left }
    ∷ record { operator = Add; strength = 4; widths = Carry }
    ∷ record { operator = Equal; strength = 3; widths = One }
    ∷ record { operator = Unequal; strength = 3; widths = One }
    ∷ record { operator = Less; strength = 3; widths = One }
    ∷ record { operator = And; strength = 2; widths = Wider }
    ∷ record { operator = Or; strength = 1; widths = Wider }
    ∷ []

-- an operator's row in the table
abbrev pub row_of : Operator → ℕ
row_of Not = 0
row_of Join = 1
row_of RotateLeft = 2
row_of RotateRight = 3
row_of Add = 4
row_of Equal = 5
row_of Unequal = 6
row_of Less = 7
row_of And = 8
row_of Or = 9

-- past the table there is no operator: strength 0 is none's
abbrev pub no_entry : Entry
no_entry = record { operator = Or; strength = 0; widths = Wider }

abbrev pub entry_in : ℕ → Entry
entry_in i = get_or table i no_entry

-- the weakest level, Or's, and the strongest, Not's
abbrev pub weakest : ℕ
weakest = (entry_in (row_of Or)).strength

abbrev pub strongest : ℕ
strongest = (entry_in (row_of Not)).strength

-- the rotations' strength
abbrev pub rotations : ℕ
rotations = (entry_in (row_of RotateLeft)).strength

-- the width of an operator's value, by the widths of its sides
abbrev pub width_by : Widths → ℕ → ℕ → ℕ
width_by Left l r = l
width_by Sum l r = l + r
width_by Carry l r = max l r + 1
width_by One l r = 1
width_by Wider l r = max l r
