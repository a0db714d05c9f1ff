-- Dictionaries: what the code holds of a list of names, the places of the names in a text with a number for each. A reader of the rules need not believe these.
-- Assumes nothing.
use Rattle.std.specs.Prelude.{ℕ, zero, suc, ◌+◌, ◌≡◌, List, [], ◌∷◌, ◌++◌, get_or, take, drop, replicate}
use Rattle.characters.specs.Named.{Named}
use Rattle.text_names.specs.declared.Dictionary.{Dictionary}
use Rattle.text_names.specs.declared.NamedPlace.{NamedPlace}

-- what stands where no name is
abbrev pub nothing : NamedPlace
nothing = record { start = 0; length = 0; number = 0 }

-- the number kept with entry i of a dictionary
abbrev pub number_at : Dictionary → ℕ → ℕ
number_at d i = (get_or d.names i nothing).number

-- a name by its place in a text
abbrev pub named_by : List ℕ → NamedPlace → Named
named_by text p = record { name = take p.length (drop p.start text); number = p.number }

-- entry i of a dictionary
abbrev pub entry_at : List ℕ → Dictionary → ℕ → Named
entry_at text d i = named_by text (get_or d.names i nothing)

-- n entries from i on
unfoldable pub entries_from : List ℕ → Dictionary → ℕ → ℕ → List Named
entries_from text d i zero = []
entries_from text d i (suc n) = entry_at text d i ∷ entries_from text d (suc i) n

-- the names that a dictionary tells of a text
abbrev pub entries : List ℕ → Dictionary → List Named
entries text d = entries_from text d 0 d.count

-- how many names a dictionary can hold
abbrev pub places : ℕ
places = 32

-- the dictionary without names
abbrev pub none : Dictionary
none = record { count = 0; names = replicate places nothing }

-- a dictionary r that has one name more than d, that of n bytes at a start, whatever the text is
pub record Added (d : Dictionary) (start n number : ℕ) (r : Dictionary) : Type 0 where
  pub count : r.count ≡ d.count + 1
  pub entries_are : (text : List ℕ) → entries text r ≡ entries text d ++ (record { name = take n (drop start text); number = number } ∷ [])
