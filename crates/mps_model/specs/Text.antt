-- The one written text of an MPS program, line by line (own profile of free MPS).
use Rattle.std.specs.Prelude.{ℕ, ◌+◌, Bool, true, false, List, [], ◌∷◌, ◌++◌, get_or, map, codes}
use Rattle.std.specs.Fmt.{decimal}
use Rattle.text_base.specs.WordLines.{WordLine, indented, unless_empty, lines_text}
use Rattle.mps_model.specs.Mps.{RowKind, BoundKind, MpsRow, Entry, Column, Bound, Mps, no_mps_row, no_column}
use Rattle.mps_model.specs.declared.kinds.RowKind.TheVariants.{N, L, G, E}
use Rattle.mps_model.specs.declared.kinds.BoundKind.TheVariants.{Lo, Up, Fx, Fr, Mi, Pl, Bv, Li, Ui}

-- ---- words
-- the letter of a kind of row
abbrev pub kind_text : RowKind → List ℕ
kind_text N = codes "N"
kind_text L = codes "L"
kind_text G = codes "G"
kind_text E = codes "E"

-- the word of a kind of bound
abbrev pub bound_text : BoundKind → List ℕ
bound_text Lo = codes "LO"
bound_text Up = codes "UP"
bound_text Fx = codes "FX"
bound_text Fr = codes "FR"
bound_text Mi = codes "MI"
bound_text Pl = codes "PL"
bound_text Bv = codes "BV"
bound_text Li = codes "LI"
bound_text Ui = codes "UI"

-- FR, MI, PL and BV are written without their value
abbrev pub value_words : BoundKind → List ℕ → List (List ℕ)
value_words Fr value = []
value_words Mi value = []
value_words Pl value = []
value_words Bv value = []
value_words _ value = value ∷ []

-- the name of row i
abbrev pub name_of_row : List MpsRow → ℕ → List ℕ
name_of_row rows i = (get_or rows i no_mps_row).name

-- ---- sections
-- the line that begins a section; all other lines begin with a space
abbrev pub section : List ℕ → WordLine
section word = word ∷ []

-- no line where the name is empty
abbrev pub name_lines : List ℕ → List WordLine
name_lines [] = []
name_lines (b ∷ name) = (codes "NAME" ∷ (b ∷ name) ∷ []) ∷ []

-- the sense where the objective is maximised, nothing where it is minimised
abbrev pub sense_lines : Bool → List WordLine
sense_lines true = section (codes "OBJSENSE") ∷ indented (codes "MAX" ∷ []) ∷ []
sense_lines false = []

-- kind and name
abbrev pub row_line : MpsRow → WordLine
row_line r = indented (kind_text r.kind ∷ r.name ∷ [])

-- marker line i; the word is that of a beginning or an end
abbrev pub marker_line : ℕ → List ℕ → WordLine
marker_line i word = indented ((codes "M" ++ decimal i) ∷ codes "'MARKER'" ∷ word ∷ [])

-- the marker line between a column and the next one, by whether each is marked
abbrev pub change_lines : Bool → Bool → ℕ → List WordLine
change_lines false true i = marker_line i (codes "'INTORG'") ∷ []
change_lines true false i = marker_line i (codes "'INTEND'") ∷ []
change_lines _ _ i = []

-- how many marker lines stand after that place
abbrev pub markers_after : Bool → Bool → ℕ → ℕ
markers_after false true i = i + 1
markers_after true false i = i + 1
markers_after _ _ i = i

-- text is how a number is written
module _ {V : Type 0} (text : V → List ℕ) where
  -- a word, the name of the row, and the number
  abbrev pub entry_line : List MpsRow → List ℕ → Entry V → WordLine
  entry_line rows word e = indented (word ∷ name_of_row rows e.row ∷ text e.value ∷ [])

  abbrev pub entry_lines : List MpsRow → List ℕ → List (Entry V) → List WordLine
  entry_lines rows word entries = map (entry_line rows word) entries

  -- the columns after a marked or unmarked one, with i marker lines before them
  unfoldable pub column_lines : List MpsRow → Bool → ℕ → List (Column V) → List WordLine
  column_lines rows before i [] = change_lines before false i
  column_lines rows before i (c ∷ cs) =
      change_lines before c.marked i
      ++ entry_lines rows c.name c.entries
      ++ column_lines rows c.marked (markers_after before c.marked i) cs

  -- kind, set name, column, and the number where the kind has one
  abbrev pub bound_line : List (Column V) → Bound V → WordLine
  bound_line columns b =
      let name = (get_or columns b.column no_column).name in
      indented (bound_text b.kind ∷ codes "BND" ∷ name ∷ value_words b.kind (text b.value))

  -- the lines of a program
  unfoldable pub mps_lines : Mps V → List WordLine
  mps_lines m =
      name_lines m.name
      ++ sense_lines m.maximise
      ++ section (codes "ROWS") ∷ map row_line m.rows
      ++ section (codes "COLUMNS") ∷ column_lines m.rows false 0 m.columns
      ++ section (codes "RHS") ∷ entry_lines m.rows (codes "RHS") m.rhs
      ++ unless_empty m.ranges
      (section (codes "RANGES") ∷ entry_lines m.rows (codes "RNG") m.ranges)
      ++ unless_empty m.bounds (section (codes "BOUNDS") ∷ map (bound_line m.columns) m.bounds)
      ++ section (codes "ENDATA") ∷ []

  -- the text of a program
  abbrev pub mps_text_by : Mps V → List ℕ
  mps_text_by m = lines_text (mps_lines m)
