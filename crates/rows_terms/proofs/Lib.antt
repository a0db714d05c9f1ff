mod CellValues
