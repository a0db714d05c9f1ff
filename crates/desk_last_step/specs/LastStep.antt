-- What the last step of a run did: the lines of its instruction and of the words that it changed. The sentences quoted are README's, of "Explain a run".
-- Assumes nothing.
use Rattle.std.specs.Prelude.{Bool, List, [], ◌∷◌, ◌++◌, ℕ, suc, eqb, get_or}
use Rattle.word.specs.Choice.{on, pick}
use Rattle.characters.specs.Ascii.{ascii, tab, line_feed}
use Rattle.page.specs.Text.{octal}
use Rattle.desk_mnemonics.specs.Mnemonics.{mnemonic}

-- a line's first word, "its address, the word" there
abbrev pub placed : List ℕ → ℕ → ℕ → List ℕ
placed first address word = first ++ tab ∷ octal 4 address ++ tab ∷ octal 4 word

-- "the instruction of the last step: its address, the word fetched there, its mnemonic", on the machine with devices or without
unfoldable pub last_line : Bool → ℕ → ℕ → List ℕ
last_line devices address word = placed (ascii "last") address word ++ tab ∷ mnemonic devices word address ++ line_feed ∷ []

-- "a word of memory ..: its address, the word before the step, the word after it"
unfoldable pub word_line : ℕ → ℕ → ℕ → List ℕ
word_line address before after = placed (ascii "word") address before ++ tab ∷ octal 4 after ++ line_feed ∷ []

-- ".. that the last step changed"
abbrev pub change_line : ℕ → ℕ → ℕ → List ℕ
change_line address before after = pick (eqb before after) [] (word_line address before after)

-- "rising addresses": of the words from an address on, before the step and after it
unfoldable pub change_lines : ℕ → List ℕ → List ℕ → List ℕ
change_lines address [] after = []
change_lines address (x ∷ before) [] = []
change_lines address (x ∷ before) (y ∷ after) = change_line address x y ++ change_lines (suc address) before after

-- by PC and memory before the step, and memory after it; "With 0 steps there is no `last`, no `word`"
unfoldable pub last_step : Bool → ℕ → ℕ → List ℕ → List ℕ → List ℕ
last_step devices steps pc before after = pick (on steps) (last_line devices pc (get_or before pc 0) ++ change_lines 0 before after) []
