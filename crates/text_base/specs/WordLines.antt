-- Lines of words, and their written text.
use Rattle.std.specs.Prelude.{ℕ, List, [], ◌∷◌, ◌++◌}
use Rattle.std.specs.List.{flat_map, join_with_byte}

-- a line, as its words
abbrev pub WordLine : Type 0
WordLine = List (List ℕ)

-- a line that begins with a space: its first word is empty
abbrev pub indented : WordLine → WordLine
indented words = [] ∷ words

-- one space between words
abbrev pub spaced : WordLine → List ℕ
spaced words = join_with_byte 32 words

-- LF after each line
abbrev pub line_text : WordLine → List ℕ
line_text words = spaced words ++ 10 ∷ []

abbrev pub lines_text : List WordLine → List ℕ
lines_text lines = flat_map line_text lines

-- lines that are left out where a list is empty
abbrev pub unless_empty : {A : Type 0} → List A → List WordLine → List WordLine
unless_empty [] lines = []
unless_empty (x ∷ xs) lines = lines
