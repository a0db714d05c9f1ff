-- The scanner of an inquiry: the image's, with an inquiry's lines. A reader need not believe these definitions: the law `by_lines` of the image's scanner
-- shows that they come to what Input says by lines.
-- Assumes nothing.
use Rattle.std.specs.Prelude.{ℕ, List, take}
use Rattle.desk_image.specs.Scan.{Reading, Scan, kept_by}
use Rattle.desk_image.specs.declared.scan.Scanner.{Scanner}
use Rattle.desk_entry.specs.Sizes.{line_bytes}
use Rattle.desk_entry.specs.Octets.{Bytes}
use Rattle.desk_entry.specs.declared.Entry.{Entry}
use Rattle.desk_entry.specs.declared.Entry.TheVariants.{Word, Register, Budget, Input}
use Rattle.desk_inquiry.specs.Input.{Inquiry, ready, is_fit_line, entered_line}
use Rattle.desk_inquiry.specs.declared.Asked.{Asked}

abbrev pub asking : Reading Inquiry
asking = record { most = line_bytes; fits = is_fit_line; enter = entered_line; start = ready }

-- what lines have asked for, with the memory
abbrev pub inquiry : Asked → List ℕ → Inquiry
inquiry a memory =
    record { registers = a.registers; budget = a.budget; memory = memory; input = take a.typed a.input; devices = a.devices }

-- what a scanner keeps, and the memory that it loads
abbrev pub kept : Scanner Asked line_bytes → List ℕ → Scan Inquiry
kept s memory = kept_by inquiry s memory

-- what is known of the second field of a line that says e
abbrev pub Bears : Entry → List ℕ → Type 0
Bears (Word address word) value = Unit {0}
Bears (Register place v) value = Unit {0}
Bears (Budget steps) value = Unit {0}
Bears (Input n) value = Bytes value n
